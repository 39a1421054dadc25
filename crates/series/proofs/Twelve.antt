-- The table of twelve: one statement over all its rows, by computation.
-- Assumes nothing.
use mathlib.Core.List.{map}
use mathlib.Core.Path.{◌≡◌, refl}
use Rattle.octets.specs.Parts.{agrees}
use Rattle.octets.specs.Digits.{digit_of, hex_of}
use Rattle.issued.specs.Issued.{contains, contains_any, ending, endings, bad_buffer, spend_refusal}
use Rattle.des.specs.Des.{expand_key}
use Rattle.credentials.specs.Credentials.{content_for}
use Rattle.message.specs.Message.{words, is_field, field_of, called_for, read_message, text_of}
use Rattle.packets.specs.Frame.{written_over}
use Rattle.challenges.specs.Challenges.{challenges_from}
use Rattle.packets.specs.Response.{response_refusal}
use Rattle.packets.specs.Reply.{challenge_packet, failure_packet}
use Rattle.authenticator.specs.Opening.{open_refusal, opened, opened_buffer}
use Rattle.authenticator.specs.Admit.{refusal_for}
use Rattle.verify.specs.Response.{first_reason, response_reason}
use Rattle.authenticator.specs.Judge.{judge_response, judge}
use Rattle.authenticator.specs.Step.{step}
use Rattle.series.specs.Twelve.{Row, output_of, rows}

pub twelve : map output_of (map (λ (r : Row). r.input) rows) ≡ map (λ (r : Row). r.output) rows
unfolding output_of expand_key content_for words is_field field_of called_for read_message text_of digit_of hex_of written_over response_refusal challenge_packet failure_packet agrees contains contains_any ending endings bad_buffer spend_refusal challenges_from open_refusal opened opened_buffer refusal_for first_reason response_reason judge_response judge step
twelve = refl
