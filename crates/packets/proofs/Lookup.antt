-- The domain and the account that the lookup finds in a Response that is written, with any padding
-- t behind it.
-- Assumes nothing.
use mathlib.Core.Path.{◌≡◌, ap, ◌∙◌}
use mathlib.Core.Bool.{false}
use mathlib.Core.List.{List, ◌∷◌, ◌++◌}
use Prim.Native.Nat.{ℕ, ◌≤◌, ◌<◌}
use native.Mathlib.Omega.{arith}
use borrow.Author.Tests.{le-ltb, eq-eqb}
use lib.ListN.{length}
use Rattle.octets.proofs.Split.{cut}
use Rattle.packets.specs.Frame.{octet}
use Rattle.packets.specs.Response.{response_packet}
use Rattle.packets.specs.Name.{is_split, is_bad_response, domain_of, account_of}
use Rattle.packets.specs.declared.Response.{Response}
use Rattle.packets.proofs.ReadBack.{ResponseBack, response_back}

module _ (id : ℕ) (f : Response) (name t home : List ℕ) (lm : length f.lm ≡ 24) (nt : length f.nt ≡ 24) (flag : f.flag < 2)
    (least : 1 ≤ length name) (most : length name ≤ 256) where
  read : ResponseBack id f name (response_packet id f name ++ t)
  read = response_back id f name t lm nt least most

  fit : is_bad_response (response_packet id f name ++ t) ≡ false
  fit =
      let p = response_packet id f name ++ t in
      let r = read in
      let g : octet 53 p ≡ f.flag = ap (λ (x : Response). x.flag) r.fields in
      simp (r.frame, eq-eqb (octet 0 p) 2 r.code, r.size, le-ltb 1 (octet 53 p) (omega arith))

  -- with a backslash: what stands before the first, and what stands behind it
  pub lookup_parts : (d a : List ℕ) → name ≡ d ++ (92 ∷ a) → is_split d ≡ false
      → (domain_of (response_packet id f name ++ t) home ≡ d) × (account_of (response_packet id f name ++ t) ≡ a)
  unfolding domain_of account_of
  lookup_parts d a e h =
      let n = read.name ∙ e in
      let s = cut 92 d a h in
      (simp (fit, n, s.holds_it) s.before_it, simp (fit, n, s.holds_it) s.behind_it)

  -- without one: the home domain, and the whole name
  pub lookup_home : is_split name ≡ false
      → (domain_of (response_packet id f name ++ t) home ≡ home) × (account_of (response_packet id f name ++ t) ≡ name)
  unfolding domain_of account_of
  lookup_home h = (simp (fit, read.name, h), simp (fit, read.name, h))
