-- The layout of a conversation, field by field: a value is its fields, an encoding is its pieces,
-- and what is decoded from the encoding of a value is the value.
-- Assumes nothing.
use mathlib.Core.Path.{◌≡◌, refl, sym, ap, ap₂, subst, ◌∙◌}
use mathlib.Core.Bool.{Bool, true}
use mathlib.Core.List.{List, ◌∷◌, ◌++◌, append_assoc}
use Prim.Native.Nat.{ℕ, suc, ◌<◌}
use native.Mathlib.Omega.{arith}
use lib.ListN.{length, take, drop, length-append}
use lib.Seq.{take_all}
use Rattle.octets.specs.Parts.{part, fixed}
use Rattle.octets.proofs.Parts.{fixed_same, length_fixed}
use Rattle.packets.proofs.Framing.{field}
use Rattle.verify.specs.declared.ChangeVersion.{ChangeVersion}
use Rattle.verify.specs.declared.ChangeVersion.TheVariants.{One, Two}
use Rattle.authenticator.specs.Conversation.{awaited_code, with_last}
use Rattle.authenticator.specs.Encode.{version}
use Rattle.authenticator.specs.Judge.{reason_of}
use Rattle.accounts.specs.declared.Entry.{Entry}
use Rattle.authenticator.specs.declared.Conversation.{Conversation}
use Rattle.authenticator.specs.declared.LastAnswer.{LastAnswer}
use Rattle.authenticator.specs.declared.Phase.{Phase}
use Rattle.authenticator.specs.declared.Phase.TheVariants.{Response, Change, Ended}
use Rattle.packets.specs.Sizes.{challenge_size}
use Rattle.layouts.specs.Values.{body_in}
use Rattle.layouts.specs.Records as records
use Rattle.layouts.specs.LastAnswers.{encode_last, decode_last}
use Rattle.layouts.specs.Conversations as layout
use Rattle.layouts.proofs.Encodings.{encoding_fits, encoding_of_lem, encoding_length}
use Rattle.layouts.proofs.RecordLaws.{SizedEntry, decoded_entry_sized, length_entry}
use Rattle.layouts.proofs.RecordLaws.{flag_back, entry_back}
use Rattle.layouts.proofs.LastAnswerLaws.{length_last, decoded_reason, last_back}

pub conversation_same : {t t' : Bool} {m m' i i' r r' : ℕ} {v v' : ChangeVersion} {c c' : List ℕ}
    {p p' : Phase} {k k' : Entry} {l l' : LastAnswer} → t ≡ t' → m ≡ m' → v ≡ v' → i ≡ i' → c ≡ c'
    → r ≡ r' → p ≡ p' → k ≡ k' → l ≡ l'
    → ◌≡◌ {A = Conversation}
    (record {
      terms = record { lm = t; limit = m; change = v };
      id = i;
      challenge = c;
      retries = r;
      phase = p;
      kept = k;
      last = l;
    })
    (record {
      terms = record { lm = t'; limit = m'; change = v' };
      id = i';
      challenge = c';
      retries = r';
      phase = p';
      kept = k';
      last = l';
    })
conversation_same e₁ e₂ e₃ e₄ e₅ e₆ e₇ e₈ e₉ = cc

pub state_pieces : (c : Conversation) {code number : ℕ}
    → code ≡ awaited_code c.terms.change c.phase → number ≡ version c.terms.change
    → (code ∷ records.flag c.terms.lm ∷ c.terms.limit ∷ number ∷ c.id ∷ c.retries
    ∷ (c.challenge ++ records.encode_entry c.kept))
    ++ encode_last c.last
    ≡ layout.encode_state c
unfolding layout.encode_state
state_pieces c e f =
    ap₂
    (λ (code : ℕ) (l : List ℕ). code ∷ records.flag c.terms.lm ∷ c.terms.limit ∷ l) e
    (ap₂ (λ (number : ℕ) (l : List ℕ). number ∷ c.id ∷ c.retries ∷ l) f
    (append_assoc c.challenge (records.encode_entry c.kept) (encode_last c.last)))

-- ---- the sizes of a value's arrays, which the code's types fix

pub record SizedConversation (c : Conversation) : Type 0 where
  pub challenge : length c.challenge ≡ challenge_size
  pub kept : SizedEntry c.kept

pub decoded_state_sized : (bytes : List ℕ)
    → SizedConversation (layout.decode_state bytes)
unfolding layout.decode_state
decoded_state_sized bytes =
    record {
      challenge = length_fixed 8 (part layout.challenge_at 8 bytes);
      kept = decoded_entry_sized (part layout.kept_at records.entry_size bytes);
    }

pub length_state : (c : Conversation) → SizedConversation c
    → length (layout.encode_state c) ≡ layout.state_size
unfolding layout.encode_state
length_state c s =
    simp (length-append, s.challenge, length_entry c.kept s.kept, length_last c.last)

pub decoded_conversation_sized : (bytes : List ℕ)
    → SizedConversation (layout.decode_conversation bytes)
decoded_conversation_sized bytes = decoded_state_sized (body_in layout.state_size bytes)

-- what is taken for a conversation has the size of one
pub length_encoded_conversation : (bytes : List ℕ) → layout.is_encoded_conversation bytes ≡ true
    → length bytes ≡ layout.conversation_size
unfolding layout.is_encoded_conversation
length_encoded_conversation =
    encoding_length layout.encode_conversation layout.decode_conversation 61
    (λ (bytes : List ℕ). ap (λ (n : ℕ). suc (suc n))
    (length_state (layout.decode_conversation bytes) (decoded_conversation_sized bytes)))

-- ---- round trip

version_back : (v : ChangeVersion) → layout.version_from (version v) ≡ v
version_back One = refl
version_back Two = refl

phase_back : (v : ChangeVersion) (p : Phase) → layout.phase_of v (awaited_code v p) ≡ p
phase_back v Response = refl
phase_back One Change = refl
phase_back Two Change = refl
phase_back One Ended = refl
phase_back Two Ended = refl

module _ (c : Conversation) (s : SizedConversation c) where
  -- all but the last answer, whose reason may be of more than two bytes here
  state_again : layout.decode_state (layout.encode_state c)
      ≡ with_last (decode_last (encode_last c.last)) c
  unfolding layout.encode_state layout.decode_state
  state_again =
      conversation_same (flag_back c.terms.lm) refl change refl
      (ap (fixed 8) challenge.0 ∙ fixed_same 8 c.challenge s.challenge) refl
      (ap (λ (v : ChangeVersion). layout.phase_of v code) change
      ∙ phase_back c.terms.change c.phase)
      (ap records.decode_entry account.0 ∙ entry_back c.kept s.kept)
      (ap (λ (l : List ℕ). decode_last (take 6 l)) account.1
      ∙ ap decode_last (take_all 6 last (omega (arith, length_last c.last))))
    where
      code : ℕ
      code = awaited_code c.terms.change c.phase

      change : layout.version_from (version c.terms.change) ≡ c.terms.change
      change = version_back c.terms.change

      kept : List ℕ
      kept = records.encode_entry c.kept

      last : List ℕ
      last = encode_last c.last

      bytes : List ℕ
      bytes =
          code ∷ records.flag c.terms.lm ∷ c.terms.limit ∷ version c.terms.change ∷ c.id
          ∷ c.retries
          ∷ (c.challenge ++ (kept ++ last))

      challenge : (part 6 8 bytes ≡ c.challenge) × (drop 14 bytes ≡ kept ++ last)
      challenge = field bytes 6 8 c.challenge (kept ++ last) refl s.challenge

      account : (part 14 39 bytes ≡ kept) × (drop 53 bytes ≡ last)
      account =
          field bytes 14 39 kept last challenge.1 (length_entry c.kept s.kept)

  again : layout.decode_conversation (layout.encode_conversation c)
      ≡ with_last (decode_last (encode_last c.last)) c
  again =
      ap layout.decode_state
      (take_all 59 (layout.encode_state c) (omega (arith, length_state c s)))
      ∙ state_again

  pub conversation_back : reason_of c.last.reply < 65536
      → layout.decode_conversation (layout.encode_conversation c) ≡ c
  conversation_back h = again ∙ ap (λ (l : LastAnswer). with_last l c) (last_back c.last h)

  -- the encoding of a conversation is taken for one
  pub conversation_fits : reason_of c.last.reply < 65536
      → layout.is_encoded_conversation (layout.encode_conversation c) ≡ true
  unfolding layout.is_encoded_conversation
  conversation_fits h =
      encoding_fits layout.encode_conversation layout.decode_conversation c (conversation_back h)

-- what is taken for a conversation has a last answer whose reason is of two bytes
pub last_reason_small : (bytes : List ℕ) → layout.is_encoded_conversation bytes ≡ true
    → reason_of (layout.decode_conversation bytes).last.reply < 65536
unfolding layout.is_encoded_conversation
last_reason_small bytes e =
    let c = layout.decode_conversation bytes in
    let same =
    ap layout.decode_conversation
    (sym (encoding_of_lem layout.encode_conversation layout.decode_conversation bytes e))
    ∙ again c (decoded_conversation_sized bytes) in
    subst (λ (v : Conversation). reason_of v.last.reply < 65536) (sym same)
    (decoded_reason c.last)
