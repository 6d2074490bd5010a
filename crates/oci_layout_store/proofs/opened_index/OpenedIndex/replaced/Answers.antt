use Rattle.std.proofs.Common.{◌∙◌, ◌++◌, Bool, List, not, map, sym, ap}
use Rattle.std.proofs.lemmas.List.{map-append}
use Rattle.serde_json.specs.View.{view}
use Rattle.oci_layout_store.specs.Brought.{gives_way, staying}
use Rattle.oci_layout_store.specs.Entries.{IndexEntry, ReadIndex, entry_of, object_members}
use Rattle.oci_layout_store.specs.declared.index.IndexEntry.{IndexEntry as CodeEntry}
use Rattle.oci_layout_store.proofs.Brought.{shallow_joined}
use Rattle.oci_layout_store.proofs.opened_index.OpenedIndex.replaced.Goals as goal

pub new-requires : goal.new-requires
new-requires c =
    let test : IndexEntry → Bool = λ (e : IndexEntry). not (gives_way c.args.each (map entry_of c.in_ok-names.names) e.name) in
    shallow_joined test c.into_parts-old.result.0.items c.in_ok-stay.stay.items c.args.more.items c.append.new.self.items c.into_parts-old.result.1 c.into_parts-old.ensures.shallow c.in_ok-stay.ensures c.requires c.in_ok-append.ensures.items

pub returns : goal.returns
returns c =
    let entries = map entry_of c.args.entries.now in
    let more = c.args.more.items in
    let stay = c.in_ok-stay.stay.items in
    let old = c.into_parts-old.result.0.items in
    let stayed = c.in_ok-stay.ensures ∙ ap (λ (es : List CodeEntry). staying c.args.each (map entry_of es) (map entry_of old)) c.in_ok-names.ensures
    ∙ ap (λ (r : ReadIndex). staying c.args.each entries (map entry_of r.entries)) (sym c.into_parts-old.ensures.parts) in
    rw (← c.self.view_is) (record {
      entries = ap (λ (r : ReadIndex). map entry_of r.entries) c.new.ensures ∙ ap (map entry_of) c.in_ok-append.ensures.items ∙ map-append entry_of stay more
          ∙ ap (λ (es : List IndexEntry). es ++ map entry_of more) stayed;
      members = ap (λ (r : ReadIndex). object_members (view r.members)) c.new.ensures ∙ sym (ap (λ (r : ReadIndex). object_members (view r.members)) c.into_parts-old.ensures.parts);
      absent = rw (c.entries.ensures.entries, c.in_ok-names.ensures) at c.in_ok-absent.ensures;
      damaged = rw (c.entries-2.ensures.entries, c.in_ok-names.ensures) at c.in_ok-damaged.ensures;
    })
