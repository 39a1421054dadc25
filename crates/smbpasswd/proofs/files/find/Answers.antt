-- `smbpasswd::files::find` meets its contract: a line that is found has an account's form.
-- Assumes nothing.
use mathlib.Core.Path.{◌≡◌, sym, ap, ◌∙◌}
use Rattle.std.specs.Prelude.{Ok}
use Rattle.smbpasswd.specs.Line.{is_account}
use Rattle.smbpasswd.specs.File.{Line, place_of}
use Rattle.smbpasswd.proofs.Search.{placed_as, line_known, entry_there}
use Rattle.smbpasswd.proofs.files.find.Goals as goal

pub unwrap-requires : goal.unwrap-requires
unwrap-requires c =
    let a = c.args in
    let p : place_of a.name.now a.file.now ≡ Line c.in-Some.offset =
    placed_as (sym (ap Ok c.in-Some.is) ∙ sym c.in_ok-offset.was ∙ c.locate.ensures) in
    entry_there _ c.of.result c.of.ensures
    (ap is_account c.line_at.ensures ∙ (line_known a.name.now a.file.now c.in-Some.offset p).account)
