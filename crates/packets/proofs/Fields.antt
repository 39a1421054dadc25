-- Records of a packet's fields are equal where their fields are.
-- Assumes nothing.
use mathlib.Core.Path.{◌≡◌}
use mathlib.Core.List.{List}
use Prim.Native.Nat.{ℕ}
use Rattle.packets.specs.declared.Response.{Response}
use Rattle.packets.specs.declared.Change.{Change}
use Rattle.packets.specs.declared.ChangeOne.{ChangeOne}
use Rattle.packets.specs.Reply.{ChallengeFields}

pub response_same : {a a' b b' : List ℕ} {c c' : ℕ} → a ≡ a' → b ≡ b' → c ≡ c'
    → ◌≡◌ {A = Response} (record { lm = a; nt = b; flag = c }) (record { lm = a'; nt = b'; flag = c' })
response_same h₁ h₂ h₃ = cc

pub asked_same : {a a' b b' : ℕ} {c c' : List ℕ} → a ≡ a' → b ≡ b' → c ≡ c'
    → ◌≡◌ {A = ChallengeFields} (record { refusal = a; id = b; challenge = c }) (record { refusal = a'; id = b'; challenge = c' })
asked_same h₁ h₂ h₃ = cc

pub change_same : {a a' b b' c c' d d' e e' f f' : List ℕ} {g g' : ℕ} → a ≡ a' → b ≡ b' → c ≡ c' → d ≡ d' → e ≡ e' → f ≡ f' → g ≡ g'
    → ◌≡◌ {A = Change} (record { block = a; verifier = b; lmblock = c; lmverifier = d; lm = e; nt = f; flags = g })
    (record { block = a'; verifier = b'; lmblock = c'; lmverifier = d'; lm = e'; nt = f'; flags = g' })
change_same h₁ h₂ h₃ h₄ h₅ h₆ h₇ = cc

pub change_one_same : {a a' b b' c c' d d' : List ℕ} {e e' f f' : ℕ} → a ≡ a' → b ≡ b' → c ≡ c' → d ≡ d' → e ≡ e' → f ≡ f'
    → ◌≡◌ {A = ChangeOne} (record { lmold = a; lmnew = b; ntold = c; ntnew = d; length = e; flags = f })
    (record { lmold = a'; lmnew = b'; ntold = c'; ntnew = d'; length = e'; flags = f' })
change_one_same h₁ h₂ h₃ h₄ h₅ h₆ = cc
