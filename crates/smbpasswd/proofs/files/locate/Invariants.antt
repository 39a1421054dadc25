-- `smbpasswd::files::locate` meets its contract.
-- Assumes nothing.
use Rattle.std.proofs.Common.{◌≡◌}
use Rattle.smbpasswd.specs.File.{place_of}
use Rattle.smbpasswd.specs.Inner.{searched, placed_at, place_in}
use Rattle.smbpasswd.proofs.files.locate.Given as goal

abbrev pub invariant-loop-at : goal.invariant-loop-at
invariant-loop-at l =
    searched l.name (place_in l.place) (placed_at l.at-iterator.at l.at-iterator.file.now) ≡ place_of l.name l.file
