-- The premises of the claim about the account file can be met, and five wrong ways to write a record
-- back do not meet it: one that writes nothing, one that leaves the time of the last change, one
-- that writes 0 for it, one that leaves the LM hash of the old password, and one that loses the
-- other accounts.
-- Assumes nothing.
use Rattle.std.specs.Prelude.{None}
use mathlib.Core.Bool.{Bool, true, false, true≢false}
use mathlib.Core.List.{List, [], ◌∷◌, ◌++◌}
use mathlib.Core.Path.{◌≡◌, refl, sym, ap, ◌∙◌}
use Prim.Native.Nat.{ℕ, ◌<◌, ◌^◌}
use native.Mathlib.Omega.{arith}
use lib.ListN.{replicate}
use Rattle.octets.specs.Digits.{digit_of, hex_of}
use Rattle.octets.specs.Parts.{agrees}
use Rattle.blocks.specs.Blocks.{run_blocks, zeros, padded, hash_blocks}
use Rattle.md4.specs.Md4.{operation, operations, increased, words_of, block, initial_registers}
use Rattle.md4.specs.Md4.{digest_of, md4_of}
use Rattle.credentials.specs.Credentials.{nt_hash_of}
use Rattle.accounts.specs.Account.{no_hash, hash_of, account_with, found, entry_of, changed}
use Rattle.accounts.specs.Account.{not_found}
use Rattle.accounts.specs.Account.{Rightful, Agree}
use Rattle.accounts.specs.declared.Account.{Account}
use Rattle.accounts.proofs.Agreeing.{made_agrees}
use Rattle.accounts.specs.declared.Lookup.{Lookup}
use Rattle.smbpasswd.specs.Line.{colon, is_account}
use Rattle.smbpasswd.specs.Record.{is_expired, account_in}
use Rattle.smbpasswd.specs.File.{lines, place_of, find_in}
use Rattle.smbpasswd.specs.Write.{hash_text, time_text, changed_line, written_in}
use Rattle.smbpasswd.specs.File.{Found}
use Rattle.smbpasswd.specs.File.{Line}
use Rattle.series.specs.Course.{Along}
use Rattle.verify.specs.declared.ChangeVersion.TheVariants.{Two}
use Rattle.series.specs.Series.{own, another, right, Step, ours, PasswordChange, SeriesState, start}
use Rattle.series.specs.Series.{exchange, next, Allowed}
use Rattle.series.specs.Boxes.{our_box}
use Rattle.series.specs.Writers.{our_writer}
use Rattle.series.specs.AccountFile.{FileWriter, keeping_time, writing_zero, keeping_lm}
use Rattle.series.specs.AccountFile.{losing_others, not_writing, aged, again, KeptAt, KeptInFile}
use Rattle.series.proofs.Sample.{opening, opens_default, old, new, user, line, new_password, change}
use Rattle.series.proofs.Sample.{try_within, change_allowed}
use Rattle.series.proofs.Demand3.{terms_of, law, change_updated, ready_first}
use Rattle.series.proofs.AccountFile.{kept_in_file}

-- ---- a file with one account

-- the NT hashes of "MyPw" and "MyNewPw"
abbrev old_hash : List ℕ
old_hash = 0xfc ∷ 0x15 ∷ 0x6a ∷ 0xf7 ∷ 0xed ∷ 0xcd ∷ 0x6c ∷ 0x0e ∷ 0xdd ∷ 0xe3 ∷ 0x33 ∷ 0x7d ∷ 0x42 ∷ 0x7f ∷ 0x4e ∷ 0xac ∷ []

abbrev new_hash : List ℕ
new_hash = 0x65 ∷ 0xde ∷ 0x9a ∷ 0xde ∷ 0x0b ∷ 0xbd ∷ 0xa2 ∷ 0xaf ∷ 0x5b ∷ 0xe3 ∷ 0x57 ∷ 0x86 ∷ 0xa8 ∷ 0xaf ∷ 0x09 ∷ 0xc0 ∷ []

-- with an LM hash too, and expired at the time 1000 where no age is allowed
abbrev account : Account
account = account_with (hash_of old_hash) (hash_of (replicate 16 1)) false false false true

-- u:1:01..01:FC..AC:[U          ]:LCT-00000001: and a line for v, who has no hash
abbrev flags_and_time : List ℕ
flags_and_time = 91 ∷ 85 ∷ (replicate 10 32 ++ 93 ∷ colon ∷ (time_text 1 ++ colon ∷ 10 ∷ []))

abbrev other_name : List ℕ
other_name = 118 ∷ []

abbrev pub file : List ℕ
file =
    user ++ colon ∷ (49 ∷ colon ∷ (hash_text (hash_of (replicate 16 1)) ++ colon ∷ (hash_text (hash_of old_hash) ++ colon ∷ flags_and_time)))
    ++ other_name ++ colon ∷ (50 ∷ colon ∷ (hash_text no_hash ++ colon ∷ (hash_text no_hash ++ colon ∷ flags_and_time)))

pub in_file : (find_in 1000 0 user file).lookup ≡ found account
unfolding find_in place_of lines is_account account_in agrees digit_of hex_of
in_file = refl

on_line : place_of user file ≡ Line 0
unfolding place_of lines is_account agrees digit_of hex_of
on_line = refl

hash_old : nt_hash_of old ≡ old_hash
unfolding nt_hash_of md4_of digest_of hash_blocks run_blocks padded zeros block increased operations operation words_of initial_registers
hash_old = refl

hash_new : nt_hash_of new ≡ new_hash
unfolding nt_hash_of md4_of digest_of hash_blocks run_blocks padded zeros block increased operations operation words_of initial_registers
hash_new = refl

-- ---- a series with it: the right password, and the change

rightful : Rightful account
rightful = record { nt = refl; enabled = refl; hours = refl; dialin = refl }

agreeing : Agree account
agreeing = made_agrees _

abbrev first : Step
first = ours (right old user) (line 55 own)

abbrev begun : SeriesState
begun = start (opening None) [] account

abbrev second : SeriesState
second = next our_box our_writer begun first

first_allowed : Allowed our_box our_writer account begun first
first_allowed = (try_within old (line 55 own) refl (omega arith) (omega arith), (hash_old, refl))

change_is_allowed : Allowed our_box our_writer account second (change (another not_found))
change_is_allowed = ((change_allowed our_box our_writer second true (another not_found)).0, hash_old)

-- the record that the change hands out
abbrev handed_out : Lookup
handed_out = found (changed (entry_of account) (hash_of new_hash) no_hash)

handed_out_lem : (exchange our_box our_writer second new_password (line 1118 (another not_found))).outcome.answer.updated ≡ handed_out
handed_out_lem =
    let ready = ready_first (opening None) opens_default refl 0 [] (first ∷ change (another not_found) ∷ []) account (omega arith) (omega arith) refl in
    change_updated account rightful agreeing (terms_of (opening None)) [] second Two old new
    (replicate 512 7)
    (line 1118 (another not_found))
    (law account rightful agreeing (terms_of (opening None)) (PasswordChange Two ∷ []) begun first ready first_allowed).2
    change_is_allowed
    ∙ ap (λ (h : List ℕ). found (changed (entry_of account) (hash_of h) no_hash)) hash_new

-- the claim, at this series
series : (write : FileWriter) → KeptInFile our_box our_writer write
    → Along (next our_box our_writer) (KeptAt our_box our_writer write user file) begun (first ∷ change (another not_found) ∷ [])
series write claim =
    claim user file 1000 0 account in_file (opening None) opens_default refl 0 [] (first ∷ change (another not_found) ∷ []) rightful (omega arith) (omega arith) refl
    (first_allowed, (change_is_allowed, tt))

-- its premises can be met: ours keeps the change of this series
pub kept : KeptAt our_box our_writer written_in user file second (change (another not_found))
kept = (series written_in kept_in_file).1.0

-- ---- wrong ways

module _ (write : FileWriter) (claim : KeptInFile our_box our_writer write) where
  -- changed at one time and looked up at another, what is found is what was handed out, expired or
  -- not
  must_keep : (changed_at later : ℕ) → changed_at < 2 ^ 32
      → again write user file handed_out changed_at later 0 ≡ aged (is_expired later 0 false changed_at) handed_out
  unfolding hex_of
  must_keep t later small =
      let back = ((series write claim).1.0 0 t later 0 on_line small).0 in
      ap (λ (u : Lookup). again write user file u t later 0) (sym handed_out_lem) ∙ back ∙ ap (aged (is_expired later 0 false t)) handed_out_lem

  -- and the other account is still found
  must_keep_others : find_in 1000 0 other_name (write user handed_out.account 1000 file) ≡ find_in 1000 0 other_name file
  unfolding agrees
  must_keep_others =
      ap (λ (u : Lookup). find_in 1000 0 other_name (write user u.account 1000 file)) (sym handed_out_lem)
      ∙ ((series write claim).1.0 0 1000 1000 0 on_line (omega arith)).2 other_name refl

abbrev is_old : Lookup → Bool
is_old l = l.account.expired

-- writes nothing: the old password stays, and is expired
pub not_not_writing : KeptInFile our_box our_writer not_writing → ⊥
not_not_writing claim = true≢false (sym (ap is_old in_file) ∙ ap is_old (must_keep not_writing claim 1000 1000 (omega arith)))

-- leaves the time: the user is asked for a new password for ever
still_expired : is_old (again keeping_time user file handed_out 1000 1000 0) ≡ true
unfolding find_in place_of lines is_account account_in agrees digit_of hex_of
still_expired = refl

pub not_keeping_time : KeptInFile our_box our_writer keeping_time → ⊥
not_keeping_time claim = true≢false (sym still_expired ∙ ap is_old (must_keep keeping_time claim 1000 1000 (omega arith)))

-- writes 0: changed at 1 and looked up at 1000, it should be expired
never_expired : is_old (again writing_zero user file handed_out 1 1000 0) ≡ false
unfolding written_in changed_line find_in place_of lines is_account account_in agrees digit_of hex_of
never_expired = refl

pub not_writing_zero : KeptInFile our_box our_writer writing_zero → ⊥
not_writing_zero claim = true≢false (sym (ap is_old (must_keep writing_zero claim 1 1000 (omega arith))) ∙ never_expired)

-- leaves the LM hash: where LM is allowed, the old password still gets in
still_lm : (again keeping_lm user file handed_out 1000 1000 0).account.lm.present ≡ true
unfolding find_in place_of lines is_account account_in agrees digit_of hex_of
still_lm = refl

pub not_keeping_lm : KeptInFile our_box our_writer keeping_lm → ⊥
not_keeping_lm claim =
    true≢false (sym still_lm ∙ ap (λ (l : Lookup). l.account.lm.present) (must_keep keeping_lm claim 1000 1000 (omega arith)))

-- loses the others: v is not found any more
lost : ((find_in 1000 0 other_name (losing_others user handed_out.account 1000 file)).lookup.found ≡ false)
    × ((find_in 1000 0 other_name file).lookup.found ≡ true)
unfolding changed_line find_in place_of lines is_account account_in agrees digit_of hex_of
lost = (refl, refl)

pub not_losing_others : KeptInFile our_box our_writer losing_others → ⊥
not_losing_others claim =
    true≢false (sym lost.1 ∙ sym (ap (λ (x : Found). x.lookup.found) (must_keep_others losing_others claim)) ∙ lost.0)
