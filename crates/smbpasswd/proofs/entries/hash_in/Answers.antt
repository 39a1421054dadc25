-- `smbpasswd::entries::hash_in` meets its contract.
-- Assumes nothing.
use mathlib.Core.Path.{sym, ap, ◌∙◌}
use Rattle.accounts.specs.Account.{hash_of}
use Rattle.smbpasswd.proofs.Digits.{decoded, hash_digits}
use Rattle.smbpasswd.proofs.entries.hash_in.Goals as goal

pub returns-then-is_absent : goal.returns-then-is_absent
returns-then-is_absent c = c.no_hash.ensures ∙ rw (sym c.is_absent.ensures ∙ c.if-is_absent.true)

pub returns : goal.returns
returns c =
    let absent = sym c.is_absent.ensures ∙ c.if-is_absent.false in
    let d = hash_digits c.args.s.now c.requires absent in
    c.hash_of.ensures ∙ ap hash_of (c.decode_hex.ensures ∙ decoded 16 c.args.s.now d.long d.digits) ∙ rw absent
