use Rattle.std.proofs.Common.{◌≡◌, ◌∙◌, List, ap, sym, subst, map}
use Rattle.std.specs.List.{All}
use Rattle.std.specs.Map.{values_of}
use Rattle.std.proofs.lemmas.List.Elements.{All-filter}
use Rattle.oci_store.specs.Tags.{Tags, by_bytes}
use Rattle.oci_layout_store.specs.Brought.{coming, IsShallowEntry}
use Rattle.oci_layout_store.specs.Entries.{entry_of}
use Rattle.oci_layout_store.specs.declared.index.IndexEntry.{IndexEntry as CodeEntry}
use Rattle.oci_layout_store.proofs.Brought.{all_stating}
use Rattle.oci_layout_store.proofs.layout.Layout.bring.Goals as goal

pub replaced-requires : goal.replaced-requires
replaced-requires g c = subst (All IsShallowEntry) (sym c.in_ok-more.ensures) (all_stating _ (All-filter _ IsShallowEntry (map entry_of c.args.entries.now) c.requires))

pub returns-clause-brought : goal.returns-clause-brought
returns-clause-brought g c =
    let entries = map entry_of c.args.entries.now in
    let tagged : by_bytes c.deref.result.now ≡ c.args.self.now.tags = ap by_bytes c.deref.ensures.value ∙ c.in_ok-to_vec.ensures.exact ∙ ap (λ l. l.tags) c.self.view_is in
    let came = c.in_ok-more.ensures ∙ ap (λ (tags : Tags). coming (values_of tags) (map entry_of c.entries.result.now) entries) tagged
    ∙ ap (λ (es : List CodeEntry). coming (values_of c.args.self.now.tags) (map entry_of es) entries) (c.entries.ensures.entries ∙ ap (λ l. l.opened.content.entries) c.self.view_is) in
    rw c.put_index.ensures.put (rw (c.take_index-index.ensures.taken, came) at c.in_ok-index.ensures)
