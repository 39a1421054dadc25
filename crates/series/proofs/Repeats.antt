-- Repeats, any number of them: once a packet was answered, every packet with its code and
-- identifier, room and a good frame draws the same reply, one after the other, and the conversation
-- stays.
-- Assumes nothing.
use mathlib.Core.List.{List, [], ◌∷◌}
use mathlib.Core.Path.{◌≡◌, refl, sym, ◌∙◌, subst}
use Prim.Native.Nat.{ℕ, zero, suc}
use lib.ListN.{replicate}
use Rattle.authenticator.specs.Admit.{is_repeat}
use Rattle.authenticator.specs.Steps.{StepInput, step_on, reply_of, next_after, refusal_at}
use Rattle.authenticator.specs.declared.Conversation.{Conversation}
use Rattle.authenticator.proofs.Admitted.{readable_by}
use Rattle.authenticator.specs.Repeats.{Again, Drawn}
use Rattle.authenticator.proofs.Repeats.{Keeps, answered, drawn_again}
use Rattle.authenticator.proofs.Steps.{number_step}
use Rattle.series.specs.Course.{end, Along}
use Rattle.series.specs.Repeats.{EachAgain}

along_again : (c : Conversation) (reply : List ℕ) (s : StepInput)
    → Keeps c s.packet reply
    → (ts : List StepInput) → EachAgain s ts
    → Along (next_after step_on) (Drawn reply) c ts × (end (next_after step_on) c ts ≡ c)
along_again c reply s k [] h = (tt, refl)
along_again c reply s k (t ∷ ts) h =
    let d = drawn_again c reply s t k h.0 in
    let same : (x : Conversation) → c ≡ x → Along (next_after step_on) (Drawn reply) x ts
    × (end (next_after step_on) x ts ≡ c) =
    λ x e. subst (λ (y : Conversation). Along (next_after step_on) (Drawn reply) y ts
    × (end (next_after step_on) y ts ≡ c)) e (along_again c reply s k ts h.1) in
    let rest = same (next_after step_on c t) (sym d.1) in
    ((d, rest.0), rest.1)

-- after any packet that was answered, judged or a repeat itself
pub any_number : (c : Conversation) (s : StepInput) → refusal_at step_on c s ≡ 0
    → (ts : List StepInput) → EachAgain s ts
    → Along (next_after step_on) (Drawn (reply_of (step_on c s))) (next_after step_on c s) ts
    × (end (next_after step_on) (next_after step_on c s) ts ≡ next_after step_on c s)
any_number c s ok ts h =
    along_again (next_after step_on c s) (reply_of (step_on c s)) s (answered c s ok) ts h

-- a packet that was answered repeats itself
pub again_itself : (c : Conversation) (s : StepInput) → refusal_at step_on c s ≡ 0 → Again s s
again_itself c s ok =
    let r = readable_by c s.packet s.buffer (is_repeat c.last s.packet)
    (sym (number_step c s.packet s.account s.buffer) ∙ ok) in
    record { code = refl; id = refl; room = r.room; frame = r.frame }

each_same : (s : StepInput) (n : ℕ) → Again s s → EachAgain s (replicate n s)
each_same s zero h = tt
each_same s (suc n) h = (h, each_same s n h)

-- the very same packet, n times
pub same_packet : (c : Conversation) (s : StepInput) → refusal_at step_on c s ≡ 0 → (n : ℕ)
    → Along (next_after step_on) (Drawn (reply_of (step_on c s))) (next_after step_on c s) (replicate n s)
    × (end (next_after step_on) (next_after step_on c s) (replicate n s) ≡ next_after step_on c s)
same_packet c s ok n = any_number c s ok (replicate n s) (each_same s n (again_itself c s ok))
