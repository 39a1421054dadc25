-- What the code passes on while a conversation is opened. Only private functions cite it.
-- Assumes nothing: these are definitions.
use Rattle.std.specs.Prelude.{replicate}
use Rattle.issued.specs.Issued.{empty_list}
use Rattle.authenticator.specs.Opening.{Opening}
use Rattle.authenticator.specs.declared.Settings.{Settings}

-- an opening with these settings, on a list and a buffer that have no effect on its conversation
abbrev pub opening_with : Settings → Opening
opening_with s =
    record {
      id = s.id;
      challenge = s.challenge;
      retries = s.retries;
      lm = s.lm;
      change = s.change;
      limit = s.limit;
      issued = empty_list 8 0;
      buffer = replicate 0 0;
    }
