use Rattle.std.proofs.Common.{◌∙◌, List, [], ◌∷◌, ◌++◌, map, sym, ap}
use Rattle.std.proofs.lemmas.List.{map-append}
use Rattle.serde_json.specs.View.{view}
use Rattle.oci_layout_store.specs.Entries.{IndexEntry, entry_of, entry_of_value}
use Rattle.oci_layout_store.proofs.Opened.{next_element}
use Rattle.oci_layout_store.proofs.index.read.entries_in.Goals as goal

pub loop-element-preserved : goal.loop-element-preserved
loop-element-preserved c =
    let before = map entry_of c.loop-element.entries.items in
    let e = c.in_ok-entry_of_value.field-0 in
    ap (map entry_of) c.in_ok-push.ensures.items ∙ map-append entry_of c.loop-element.entries.items (e ∷ [])
    ∙ ap (λ (x : IndexEntry). before ++ x ∷ []) c.in_ok-entry_of_value.ensures
    ∙ ap (λ (es : List IndexEntry). es ++ entry_of_value (view c.in-Some.element) ∷ []) c.loop-element.invariant
    ∙ sym (next_element c.loop-element.yielded c.in-Some.element)
