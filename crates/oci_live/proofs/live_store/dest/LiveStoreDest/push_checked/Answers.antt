use Rattle.std.proofs.Common.{◌≡◌, List, [], ◌∷◌, ◌++◌, Ok, ap, sym, ◌∙◌}
use Rattle.std.proofs.lemmas.List.{map-append}
use Rattle.oci_store.specs.Content.{Entry}
use Rattle.oci_store.specs.Graph.{Node, node_of, nodes_of}
use Rattle.oci_store.specs.Push.{closed_check}
use Rattle.oci_store.proofs.ClosedGraphs.{IsClosed-after}
use Rattle.oci_live.proofs.live_store.dest.LiveStoreDest.push_checked.Goals as goal

pub publish-requires-clause-closed : goal.publish-requires-clause-closed
publish-requires-clause-closed g c =
    let es = c.args.self.now.entries in
    let e : Entry = c.args.content in
    let checked = c.in_ok-check_closed.ensures.checked.0 in
    let graph : c.graph.result.now ≡ nodes_of es = c.graph.ensures ∙ ap nodes_of c.shelf.ensures.entries in
    IsClosed-after (nodes_of es) (nodes_of (es ++ e ∷ [])) e.0 e.1 (Ok 0) c.shelf.ensures.closed (map-append node_of es (e ∷ [])) tt
    (checked.0, ap (λ (n : List Node). closed_check n e.0 e.1) (sym graph) ∙ checked.1)
