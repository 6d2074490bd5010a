use Rattle.std.proofs.Common.{◌≡◌, List, [], ◌∷◌, ◌++◌, drop, ap, ◌∙◌, sym, subst}
use Rattle.left_right.specs.Sides.{view}
use Rattle.oci_store.specs.Content.{Entry}
use Rattle.oci_store.specs.Graph.{nodes_of}
use Rattle.oci_store.specs.Closed.{IsClosed}
use Rattle.oci_live.specs.declared.shelf.Shelf.{Shelf}
use Rattle.oci_live.specs.declared.shelf.Shared.{Shared}
use Rattle.oci_live.specs.declared.shelf.Item.{Item}
use Rattle.oci_live.specs.History.{name_of}
use Rattle.oci_live.proofs.Steps.{grows}
use Rattle.oci_live.proofs.publishing.published.Goals as goal

pub publish_as-requires : goal.publish_as-requires
publish_as-requires g c next is =
    let item = c.args.item in
    let e : Entry = item.content in
    let now = c.append.new.self in
    let desk = c.append.ensures.desk in
    let log : drop now.behind now.log.items ≡ item ∷ [] = c.in-Ok.ensures.pending ∙ ap (λ (l : List Item). l ++ item ∷ []) c.requires.nothing in
    let shown : now.desk.shown.value ≡ c.args.publisher.desk.shown.value = ap (λ d. d.shown.value) desk in
    let told : item.witness.log ≡ now.desk.shown.value.entries ++ e ∷ [] = c.requires.told ∙ ap (λ (s : Shelf). s.entries ++ e ∷ []) (sym shown) in
    let closed = subst (λ (s : Shelf). IsClosed (nodes_of (s.entries ++ e ∷ []))) (sym shown) c.requires.closed in
    let to = rw log at is in
    grows now.desk.place.id (view now.desk.place) now.desk.shown.value next e item.witness.log (ap (λ (t : Shared). t.list) to) (ap (λ (t : Shared). t.log) to)
    told (ap (λ (t : Shared). t.name) to ∙ (c.requires.name ∙ ap (λ (s : Shelf). name_of s.witness.book) (sym shown))) closed
