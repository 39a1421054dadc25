use mathlib.Core.Path.{◌≡◌, sym, ap, ap₂, ◌∙◌}
use mathlib.Core.List.{List, [], ◌∷◌, ◌++◌, map}
use Prim.Native.Nat.{ℕ}
use native.Mathlib.Numerals.{add-one}
use native.Mathlib.Omega.{arith}
use lib.ListN.{length, length-set, length-map, get_or-map}
use lib.Seq.{take-suc, take-suc-set, take_all}
use Rattle.des.specs.Inner.{keys_of, length_made}
use Rattle.des.specs.Stored.{pack_key, stored_schedule}
use Rattle.des.proofs.schedule.fill_schedule.Goals as goal

length_stored : (c d : ℕ) → length (map pack_key (keys_of c d)) ≡ 16
length_stored c d = length-map (keys_of c d) pack_key ∙ length_made c d

pub loop-i-preserved : goal.loop-i-preserved
unfolding pack_key
loop-i-preserved c =
    let i = c.loop-i.i in
    let k = c.of_key-keys.result in
    let ks = keys_of k.c k.d in
    let n = length_stored k.c k.d in
    let m = c.loop-i.invariant.0 in
    let h = c.requires in (
      simp length-set m,
      rw (add-one i)
          (take-suc-set c.loop-i.schedule i _ (omega arith)
          ∙ ap₂ (λ (l : List ℕ) (v : ℕ). l ++ (v ∷ [])) c.loop-i.invariant.1
          (c.stored_key.ensures ∙ sym (get_or-map pack_key ks i 0))
          ∙ sym (take-suc (map pack_key ks) i 0 (omega arith))),
    )

pub returns : goal.returns
unfolding stored_schedule
returns c =
    let i = c.loop-i.i in
    let k = c.of_key-keys.result in
    let ks = keys_of k.c k.d in
    let n = length_stored k.c k.d in
    let m = c.loop-i.invariant.0 in
    let h = c.requires in
    sym (take_all i c.loop-i.schedule (omega arith)) ∙ c.loop-i.invariant.1 ∙ take_all i (map pack_key ks) (omega arith)
    ∙ ap (map pack_key) c.of_key-keys.ensures
