-- Whether the arguments of a record's response are valid, by what the record decodes to. Only the
-- contract of a private function cites this.
-- Assumes nothing: these are definitions.
use Rattle.std.specs.Prelude.{Bool, ◌&&◌, List, ℕ}
use Rattle.packets.specs.Sizes.{challenge_size}
use Rattle.accounts.specs.declared.EntryLookup.{EntryLookup}
use Rattle.layouts.specs.Call.{sized}
use Rattle.layouts.specs.Records.{is_record_of}
use Rattle.account_records.specs.Calls.{is_one_hash}

abbrev pub response_arguments_as : EntryLookup → List ℕ → ℕ → List ℕ → Bool
response_arguments_as l bytes hash challenge =
    is_record_of l bytes && (is_one_hash hash && sized challenge_size challenge)
