-- `smbpasswd::entries::Line::is_account` meets its contract: test by test.
-- Assumes nothing.
use mathlib.Core.Bool.{Bool, true, false, ◌&&◌}
use mathlib.Core.Path.{◌≡◌, refl, sym, ap, ◌∙◌}
use borrow.Author.Tests.{le-leb, lt-leb}
use lib.Dec.{leb}
use lib.ListN.{length}
use Rattle.smbpasswd.specs.Line.{field, is_name, is_uid, is_hash, is_flags, is_time, is_account}
use Rattle.smbpasswd.proofs.FieldLaws.{laid}
use Rattle.smbpasswd.proofs.entries.Line.is_account.Goals as goal
use Rattle.smbpasswd.proofs.entries.Line.is_account.Goals.{After-is_time, Else-is_flags, then-self}
use Rattle.smbpasswd.proofs.entries.Line.is_account.Goals.{else-self, then-is_name, else-is_name}
use Rattle.smbpasswd.proofs.entries.Line.is_account.Goals.{then-is_uid, else-is_uid, then-is_hash}
use Rattle.smbpasswd.proofs.entries.Line.is_account.Goals.{else-is_hash, then-is_hash-2}
use Rattle.smbpasswd.proofs.entries.Line.is_account.Goals.{else-is_hash-2}

-- one test more, and none after one that failed
went : {v p q t u : Bool} → p ≡ q → p ≡ true → v ≡ t → t ≡ u → v ≡ (q && u)
went {v} {p} {q} {t} {u} d e f g = f ∙ g ∙ sym (ap (λ (x : Bool). x && u) (sym d ∙ e))

stayed : {v p q : Bool} (u : Bool) → p ≡ q → p ≡ false → v ≡ p → v ≡ (q && u)
stayed {v} {p} {q} u d e f = f ∙ e ∙ sym (ap (λ (x : Bool). x && u) (sym d ∙ e))

nested : (a b c d e f g : Bool)
    → ((((((a && b) && c) && d) && e) && f) && g) ≡ (a && (b && (c && (d && (e && (f && g))))))
nested false b c d e f g = refl
nested true false c d e f g = refl
nested true true false d e f g = refl
nested true true true false e f g = refl
nested true true true true false f g = refl
nested true true true true true false g = refl
nested true true true true true true g = refl

-- what is found by the tests before the last
tested-then : (c : After-is_time)
    → c.if-is_hash-2.value
    ≡ (((((leb c.args.self.now.columns.rest (length c.args.self.now.octets.now)
    && is_name (field 0 c.args.self.now.octets.now)) && is_uid (field 1 c.args.self.now.octets.now))
    && is_hash (field 2 c.args.self.now.octets.now)) && is_hash (field 3 c.args.self.now.octets.now))
    && is_flags (field 4 c.args.self.now.octets.now))
tested-then c =
    let l = c.args.self.now.octets.now in
    let r = c.args.self.now.columns.rest in
    let name : c.if-self.value ≡ (leb r (length l) && is_name (field 0 l)) =
    elim c.if-self.branch [
      | then-self w ↦ went refl (le-leb r (length l) w.if-self.true) w.value-is (w.is_name.ensures ∙ ap is_name w.name.ensures)
      | else-self w ↦ stayed (is_name (field 0 l)) refl (lt-leb r (length l) w.if-self.false) w.value-is
    ] in
    let uid : c.if-is_name.value ≡ ((leb r (length l) && is_name (field 0 l)) && is_uid (field 1 l)) =
    elim c.if-is_name.branch [
      | then-is_name w ↦ went name w.if-is_name.true w.value-is (w.is_uid.ensures ∙ ap is_uid w.uid.ensures)
      | else-is_name w ↦ stayed (is_uid (field 1 l)) name w.if-is_name.false w.value-is
    ] in
    let lm : c.if-is_uid.value ≡ (((leb r (length l) && is_name (field 0 l)) && is_uid (field 1 l)) && is_hash (field 2 l)) =
    elim c.if-is_uid.branch [
      | then-is_uid w ↦ went uid w.if-is_uid.true w.value-is (w.is_hash.ensures ∙ ap is_hash w.lm.ensures)
      | else-is_uid w ↦ stayed (is_hash (field 2 l)) uid w.if-is_uid.false w.value-is
    ] in
    let nt : c.if-is_hash.value ≡ ((((leb r (length l) && is_name (field 0 l)) && is_uid (field 1 l)) && is_hash (field 2 l)) && is_hash (field 3 l)) =
    elim c.if-is_hash.branch [
      | then-is_hash w ↦ went lm w.if-is_hash.true w.value-is (w.is_hash-then-is_hash.ensures ∙ ap is_hash w.nt.ensures)
      | else-is_hash w ↦ stayed (is_hash (field 3 l)) lm w.if-is_hash.false w.value-is
    ] in
    elim c.if-is_hash-2.branch [
      | then-is_hash-2 w ↦ went nt w.if-is_hash-2.true w.value-is (w.is_flags.ensures ∙ ap is_flags w.flags.ensures)
      | else-is_hash-2 w ↦ stayed (is_flags (field 4 l)) nt w.if-is_hash-2.false w.value-is
    ]

tested-else : (c : Else-is_flags)
    → c.if-is_hash-2.value
    ≡ (((((leb c.args.self.now.columns.rest (length c.args.self.now.octets.now)
    && is_name (field 0 c.args.self.now.octets.now)) && is_uid (field 1 c.args.self.now.octets.now))
    && is_hash (field 2 c.args.self.now.octets.now)) && is_hash (field 3 c.args.self.now.octets.now))
    && is_flags (field 4 c.args.self.now.octets.now))
tested-else c =
    let l = c.args.self.now.octets.now in
    let r = c.args.self.now.columns.rest in
    let name : c.if-self.value ≡ (leb r (length l) && is_name (field 0 l)) =
    elim c.if-self.branch [
      | then-self w ↦ went refl (le-leb r (length l) w.if-self.true) w.value-is (w.is_name.ensures ∙ ap is_name w.name.ensures)
      | else-self w ↦ stayed (is_name (field 0 l)) refl (lt-leb r (length l) w.if-self.false) w.value-is
    ] in
    let uid : c.if-is_name.value ≡ ((leb r (length l) && is_name (field 0 l)) && is_uid (field 1 l)) =
    elim c.if-is_name.branch [
      | then-is_name w ↦ went name w.if-is_name.true w.value-is (w.is_uid.ensures ∙ ap is_uid w.uid.ensures)
      | else-is_name w ↦ stayed (is_uid (field 1 l)) name w.if-is_name.false w.value-is
    ] in
    let lm : c.if-is_uid.value ≡ (((leb r (length l) && is_name (field 0 l)) && is_uid (field 1 l)) && is_hash (field 2 l)) =
    elim c.if-is_uid.branch [
      | then-is_uid w ↦ went uid w.if-is_uid.true w.value-is (w.is_hash.ensures ∙ ap is_hash w.lm.ensures)
      | else-is_uid w ↦ stayed (is_hash (field 2 l)) uid w.if-is_uid.false w.value-is
    ] in
    let nt : c.if-is_hash.value ≡ ((((leb r (length l) && is_name (field 0 l)) && is_uid (field 1 l)) && is_hash (field 2 l)) && is_hash (field 3 l)) =
    elim c.if-is_hash.branch [
      | then-is_hash w ↦ went lm w.if-is_hash.true w.value-is (w.is_hash-then-is_hash.ensures ∙ ap is_hash w.nt.ensures)
      | else-is_hash w ↦ stayed (is_hash (field 3 l)) lm w.if-is_hash.false w.value-is
    ] in
    elim c.if-is_hash-2.branch [
      | then-is_hash-2 w ↦ went nt w.if-is_hash-2.true w.value-is (w.is_flags.ensures ∙ ap is_flags w.flags.ensures)
      | else-is_hash-2 w ↦ stayed (is_flags (field 4 l)) nt w.if-is_hash-2.false w.value-is
    ]

pub returns-then-is_flags : goal.returns-then-is_flags
unfolding is_account
returns-then-is_flags c =
    let l = c.args.self.now.octets.now in
    let r = c.args.self.now.columns.rest in
    let o = laid c.args.self.now.laid in
    went (tested-then c) c.if-is_flags.true refl (c.is_time.ensures ∙ ap is_time c.time.ensures)
    ∙ nested (leb r (length l)) (is_name (field 0 l)) (is_uid (field 1 l)) (is_hash (field 2 l)) (is_hash (field 3 l))
    (is_flags (field 4 l)) (is_time (field 5 l))
    ∙ ap (λ (x : Bool). x && (is_name (field 0 l) && (is_uid (field 1 l) && (is_hash (field 2 l)
    && (is_hash (field 3 l) && (is_flags (field 4 l) && is_time (field 5 l))))))) o.whole

pub returns-else-is_flags : goal.returns-else-is_flags
unfolding is_account
returns-else-is_flags c =
    let l = c.args.self.now.octets.now in
    let r = c.args.self.now.columns.rest in
    let o = laid c.args.self.now.laid in
    stayed (is_time (field 5 l)) (tested-else c) c.if-is_flags.false refl
    ∙ nested (leb r (length l)) (is_name (field 0 l)) (is_uid (field 1 l)) (is_hash (field 2 l)) (is_hash (field 3 l))
    (is_flags (field 4 l)) (is_time (field 5 l))
    ∙ ap (λ (x : Bool). x && (is_name (field 0 l) && (is_uid (field 1 l) && (is_hash (field 2 l)
    && (is_hash (field 3 l) && (is_flags (field 4 l) && is_time (field 5 l))))))) o.whole
