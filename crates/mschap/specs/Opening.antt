-- The opening from C, over encodings.
-- Assumes nothing: these are definitions.
use Rattle.std.specs.Prelude.{Bool, ◌&&◌, List, ◌≡◌, ℕ, ltb}
use Rattle.packets.specs.Sizes.{challenge_size}
use Rattle.authenticator.specs.Opening.{Opening, opened, opened_issued, opened_buffer}
use Rattle.layouts.specs.Call.{sized, numbered, after_call}
use Rattle.layouts.specs.Lists.{encode_list, decode_list, is_list}
use Rattle.layouts.specs.Conversations.{conversation_size, encode_conversation}
use Rattle.numbers.specs.Terms.{is_terms, retries_for, retries_term, lm_for, lm_term, limit_term}
use Rattle.numbers.specs.Terms.{change_for, change_term}

-- identifiers are below this
abbrev pub identifiers_end : ℕ
identifiers_end = 256

-- what is passed to the opening
abbrev pub opening_for : ℕ → ℕ → List ℕ → List ℕ → List ℕ → Opening
opening_for id terms challenge list reply =
    record {
      id = id;
      challenge = challenge;
      retries = retries_for (retries_term terms);
      lm = lm_for (lm_term terms);
      change = change_for (change_term terms);
      limit = limit_term terms;
      issued = decode_list list;
      buffer = reply;
    }

unfoldable pub open_arguments : ℕ → ℕ → List ℕ → List ℕ → List ℕ → Bool
open_arguments id terms challenge list conversation =
    ltb id identifiers_end
    && (is_terms terms
    && (sized challenge_size challenge && (is_list list && sized conversation_size conversation)))

-- what the call returns (r) and leaves in the list, the conversation and the reply buffer
pub record OpenCall (id terms : ℕ) (challenge list conversation reply : List ℕ) (r : ℕ)
    (list_after conversation_after reply_after : List ℕ) : Type 0 where
  pub number : r
      ≡ numbered (open_arguments id terms challenge list conversation)
      (opened (opening_for id terms challenge list reply)).refusal
  pub issued : list_after
      ≡ after_call r (encode_list (opened_issued (opening_for id terms challenge list reply))) list
  pub first : conversation_after
      ≡ after_call r
      (encode_conversation (opened (opening_for id terms challenge list reply)).conversation)
      conversation
  pub sent : reply_after
      ≡ after_call r (opened_buffer (opening_for id terms challenge list reply)) reply
