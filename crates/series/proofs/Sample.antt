-- A sample of what demand 3 speaks of: openings, a record, our peer's packets and what is passed
-- with them. They meet the premises with any box and writer.
-- Assumes nothing.
use Rattle.std.specs.Prelude.{Option, Some, None}
use mathlib.Core.Bool.{Bool, false}
use mathlib.Core.List.{List, [], ◌∷◌}
use mathlib.Core.Path.{◌≡◌, refl}
use Prim.Native.Nat.{ℕ, ◌≤◌, ◌<◌}
use native.Mathlib.Omega.{arith}
use lib.ListN.{length, replicate}
use Rattle.issued.specs.Issued.{empty_list, bad_buffer}
use Rattle.credentials.specs.Credentials.{nt_hash_of, bad_nt_password}
use Rattle.accounts.specs.Account.{no_hash, not_found, Rightful, Agree, hash_of, account_with}
use Rattle.accounts.proofs.Agreeing.{made_agrees}
use Rattle.authenticator.specs.Opening.{Opening, opened}
use Rattle.authenticator.specs.Steps.{Box}
use Rattle.accounts.specs.declared.Account.{Account}
use Rattle.verify.specs.declared.ChangeVersion.{ChangeVersion}
use Rattle.verify.specs.declared.ChangeVersion.TheVariants.{One, Two}
use Rattle.authenticator.proofs.Openings.{may_open_empty}
use Rattle.series.specs.Series.{Packet, invalid, right, password_change, Passed, own, another}
use Rattle.series.specs.Series.{ExchangeInput, Step, ours, SeriesState, TryWithin, ChangeWithin}
use Rattle.series.specs.Series.{Allowed}
use Rattle.series.specs.Writers.{Writer}

-- ---- openings, passwords, records

-- identifier 255 and a challenge that begins with E9, so that both next over their octet; an empty
-- list of three places
abbrev pub challenge : List ℕ
challenge = 0xE9 ∷ 2 ∷ 3 ∷ 4 ∷ 5 ∷ 6 ∷ 7 ∷ 8 ∷ []

abbrev pub opening_for : Option ChangeVersion → Option ℕ → ℕ → Opening
opening_for x r limit =
    record {
      id = 255;
      challenge = challenge;
      retries = r;
      lm = (Some false);
      change = x;
      limit = limit;
      issued = empty_list 8 3;
      buffer = replicate 17 0;
    }

abbrev pub opening_of : Option ℕ → ℕ → Opening
opening_of = opening_for None

abbrev pub opening : Option ℕ → Opening
opening r = opening_of r 5

-- a list of whole places, of which none is used
pub three_places : bad_buffer 8 (replicate 24 0) 0 ≡ false
unfolding bad_buffer
three_places = refl

pub opens_default : (opened (opening None)).refusal ≡ 0
opens_default = may_open_empty (opening None) (omega arith) (omega arith) (omega arith) three_places refl refl
    (omega arith)

pub opens_limited : (limit : ℕ) → 0 < limit → (opened (opening_of (Some 0) limit)).refusal ≡ 0
opens_limited limit pos = may_open_empty (opening_of (Some 0) limit) pos (omega arith) (omega arith)
    three_places refl refl (omega arith)

-- whatever change it chooses
pub opens_for : (x : Option ChangeVersion) → (opened (opening_for x (Some 1) 5)).refusal ≡ 0
opens_for x = may_open_empty (opening_for x (Some 1) 5) (omega arith) (omega arith) (omega arith)
    three_places refl refl (omega arith)

pub opens_once : (opened (opening (Some 1))).refusal ≡ 0
opens_once = opens_for None

-- "MyPw", "bad" and "MyNewPw"
abbrev pub old : List ℕ
old = 0x4D ∷ 0 ∷ 0x79 ∷ 0 ∷ 0x50 ∷ 0 ∷ 0x77 ∷ 0 ∷ []

abbrev pub bad : List ℕ
bad = 0x62 ∷ 0 ∷ 0x61 ∷ 0 ∷ 0x64 ∷ 0 ∷ []

abbrev pub new : List ℕ
new = 0x4D ∷ 0 ∷ 0x79 ∷ 0 ∷ 0x4E ∷ 0 ∷ 0x65 ∷ 0 ∷ 0x77 ∷ 0 ∷ 0x50 ∷ 0 ∷ 0x77 ∷ 0 ∷ []

abbrev pub user : List ℕ
user = 117 ∷ []

-- a record whose password is "MyPw", expired or not
abbrev pub account : Bool → Account
account expired = account_with (hash_of (nt_hash_of old)) no_hash false false false expired

pub rightful : (expired : Bool) → Rightful (account expired)
rightful expired = record { nt = refl; enabled = refl; hours = refl; dialin = refl }

-- with the round keys of its hash
pub agreeing : (expired : Bool) → Agree (account expired)
agreeing expired = made_agrees _

-- ---- our peer's packets

-- an output buffer of n octets, and padding behind the packet and behind the reply
abbrev pub line : ℕ → Passed → ExchangeInput
line n l = record {
  out = replicate n 0;
  packet_padding = 9 ∷ [];
  account = l;
  buffer = replicate 17
      0;
  reply_padding = 9 ∷ 9 ∷ [];
}

abbrev pub bad_try : Passed → Step
bad_try l = ours (invalid bad user) (line 60 l)

abbrev pub right_try : Step
right_try = ours (right old user) (line 55 own)

-- the change, of either version
abbrev pub new_password_by : ChangeVersion → Packet
new_password_by v = password_change v old new (replicate 512 7)

abbrev pub change_by : ChangeVersion → Passed → Step
change_by v l = ours (new_password_by v) (line 1118 l)

abbrev pub new_password : Packet
new_password = new_password_by Two

abbrev pub change : Passed → Step
change = change_by Two

-- ---- the premises

-- the limits of a try, with a name of one octet, and of the change
pub try_within : (password : List ℕ) (l : ExchangeInput) → bad_nt_password password ≡ false
    → 55 ≤ length l.out → 17 ≤ length l.buffer
    → TryWithin password user l
try_within password l good out room = record { not8 = good; not10 = refl; not9 = out; not2 = room }

change_within : (v : ChangeVersion) (l : ExchangeInput) → 1118 ≤ length l.out
    → 17 ≤ length l.buffer → ChangeWithin v old new (replicate 512 7) l
change_within One l out room = record {
  old_not_8 = refl;
  new_not_8 = refl;
  not12 = refl;
  not9 = omega (arith, out);
  not2 = room;
}
change_within Two l out room = record {
  old_not_8 = refl;
  new_not_8 = refl;
  not12 = refl;
  not9 = out;
  not2 = room;
}

pub new_within : (l : Passed) → TryWithin new user (line 55 l)
new_within l = try_within new (line 55 l) refl (omega arith) (omega arith)

-- at any place, with any box and writer
module _ (box : Box) (writer : Writer) (p : SeriesState) where
  -- passed no record
  pub bad_allowed : (a : Account) → Allowed box writer a p (bad_try (another not_found))
  bad_allowed a = (
    try_within bad (line 60 (another not_found)) refl (omega arith) (omega arith),
    refl,
  )

  pub right_allowed : (expired : Bool) → Allowed box writer (account expired) p right_try
  right_allowed expired = (
    try_within old (line 55 own) refl (omega arith) (omega arith),
    (refl, refl),
  )

  pub change_by_allowed : (v : ChangeVersion) (expired : Bool) (l : Passed)
      → Allowed box writer (account expired) p (change_by v l)
  change_by_allowed v expired l =
      (change_within v (line 1118 l) (omega arith) (omega arith), refl)

  pub change_allowed : (expired : Bool) (l : Passed)
      → Allowed box writer (account expired) p (change l)
  change_allowed = change_by_allowed Two
