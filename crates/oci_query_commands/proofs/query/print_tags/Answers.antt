use Rattle.std.proofs.Common.{map, sym, subst}
use Rattle.std.specs.Io.KnownBytes.{Appends}
use Rattle.std.proofs.lemmas.List.Folds.{flat_map-map}
use Rattle.std.proofs.lemmas.Result.{on_ok_weaker}
use Rattle.oci_query_commands.specs.Lines.{listing_line}
use Rattle.oci_query_commands.specs.Listed.{listing_of}
use Rattle.oci_query_commands.proofs.query.print_tags.Goals as goal

pub returns-clause-printed : goal.returns-clause-printed
returns-clause-printed g c = λ lines.
    let found = c.in_ok-tags.tags.tags.items in
    let as_lines = Appends (g.W.Write.contents c.args.out.now) (g.W.Write.contents c.print_answer_of_all.new.out) in
    on_ok_weaker c.print_answer_of_all.result
    (λ appended. (map listing_of found, c.in_ok-tags.ensures, subst as_lines (sym (flat_map-map listing_line listing_of found)) appended))
    (c.print_answer_of_all.ensures.lines lines)
