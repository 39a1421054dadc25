-- Verdicts put together from the parts that the code made.
-- Assumes nothing.
use Rattle.std.specs.Prelude.{Option, Some, None}
use mathlib.Core.Bool.{Bool, true, false, cond}
use mathlib.Core.Path.{◌≡◌, refl, sym, ap, ap₂, ◌∙◌}
use Rattle.accounts.specs.Account.{
  not_found,
  found,
  changed,
  changed_entry,
  no_entry,
  entry_lookup_of,
}
use Rattle.accounts.specs.declared.Entry.{Entry}
use Rattle.accounts.specs.declared.EntryLookup.{EntryLookup}
use Rattle.message.specs.Reasons.{changing_password}
use Rattle.verify.specs.Faults.{is_faultless}
use Rattle.verify.specs.declared.ChangeFault.{ChangeFault}
use Rattle.verify.specs.declared.ChangeFault.TheVariants.{NoNtHash, NoNtResponse, LengthOver}
use Rattle.verify.specs.declared.ChangeFault.TheVariants.{LengthOdd, OldHashWrong, ResponseWrong}
use Rattle.verify.specs.declared.ChangeFault.TheVariants.{LmNotAllowed, LengthOverLm, HashAbsent}
use Rattle.verify.specs.declared.ChangeFault.TheVariants.{HashWrong}
use Rattle.verify.specs.Change.{CheckedChange}
use Rattle.verify.specs.declared.CheckedResponse.{CheckedResponse}
use Rattle.authenticator.specs.Conversation.{ended}
use Rattle.authenticator.specs.Judge.{verdict_of, reply_for, after_reason, change_judgement}
use Rattle.authenticator.specs.declared.Conversation.{Conversation}
use Rattle.authenticator.specs.declared.Verdict.{Verdict}
use Rattle.authenticator.specs.declared.Reply.{Reply}
use Rattle.authenticator.specs.declared.Reply.TheVariants.{Success, Failure}

abbrev verdict : Reply → Option ChangeFault → Conversation → EntryLookup → Verdict
verdict r f n l = record { reply = r; fault = f; next = n; updated = l }

pub verdict_same : {r s : Reply} {f : Option ChangeFault} {n m : Conversation} {l k : EntryLookup}
    → r ≡ s → n ≡ m → l ≡ k → verdict r f n l ≡ verdict s f m k
verdict_same {r} {s} {f} {n} {m} {l} {k} e h g =
    ap₂ (λ (x : Reply) (y : Conversation). verdict x f y l) e h ∙ ap (verdict s f m) g

-- of a Response that was checked
abbrev pub verdict_for : Conversation → CheckedResponse → Verdict
verdict_for c v =
    verdict (reply_for c v.reason) None (after_reason c v.updated.entry v.reason)
    v.updated

-- a change that is accepted or not
abbrev pub chosen : Conversation → CheckedChange → Bool → Verdict
chosen c v t =
    verdict (cond t Success (Failure changing_password false)) v.fault (ended c)
    (entry_lookup_of (cond t (found (changed c.kept v.nt v.lm)) not_found))

module _ (c : Conversation) (v : CheckedChange) {next : Conversation} (n : next ≡ ended c) where
  pub changed_judged : {entry : Entry} → is_faultless v.fault ≡ true
      → entry ≡ changed_entry c.kept v.nt v.lm
      → verdict Success v.fault next (record { found = true; entry = entry })
      ≡ verdict_of (change_judgement c v)
  changed_judged t u =
      ap₂ (λ (x : Conversation) (e : Entry). verdict Success v.fault x
      (record { found = true; entry = e })) n u
      ∙ ap (chosen c v) (sym t)

  pub unchanged_judged : {updated : EntryLookup} → is_faultless v.fault ≡ false
      → updated ≡ no_entry
      → verdict (Failure changing_password false) v.fault next updated
      ≡ verdict_of (change_judgement c v)
  unchanged_judged t u =
      ap₂ (verdict (Failure changing_password false) v.fault) n u ∙ ap (chosen c v) (sym t)

-- a fault is not none
pub faulty : (f : ChangeFault) → is_faultless (Some f) ≡ false
faulty NoNtHash = refl
faulty NoNtResponse = refl
faulty LengthOver = refl
faulty LengthOdd = refl
faulty OldHashWrong = refl
faulty ResponseWrong = refl
faulty LmNotAllowed = refl
faulty LengthOverLm = refl
faulty HashAbsent = refl
faulty HashWrong = refl
