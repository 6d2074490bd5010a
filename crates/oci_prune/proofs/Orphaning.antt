-- The names of entries with their keys.
use Rattle.std.proofs.Common.{◌≡◌, ℕ, ◌+◌, ◌<◌, List, [], ◌∷◌, ◌++◌, length, get_or, take, map, ap, ◌∙◌}
use Rattle.std.proofs.lemmas.Grind.{flat_map-append}
use Rattle.std.proofs.lemmas.List.{append-nil}
use Rattle.oci_store.specs.Tags.{Tags}
use Rattle.oci_layout_store.specs.Entries.{entry_of}
use Rattle.oci_layout_store.specs.declared.index.IndexEntry.{IndexEntry as CodeEntry}
use Rattle.oci_layout_store.proofs.Opened.{next_entry}
use Rattle.oci_prune.specs.Orphans.{named_pair, named_pairs}

-- those of the entries before a place, with the next one
pub next_pair : (es : List CodeEntry) (i : ℕ) (e : CodeEntry) → i < length es → e ≡ get_or es i e → named_pairs (map entry_of (take (i + 1) es)) ≡ named_pairs (map entry_of (take i es)) ++ named_pair (entry_of e)
next_pair es i e lt is =
    let so_far = named_pairs (map entry_of (take i es)) in
    ap named_pairs (next_entry es i e lt is) ∙ flat_map-append named_pair (map entry_of (take i es)) (entry_of e ∷ []) ∙ ap (λ (ts : Tags). so_far ++ ts) (append-nil (named_pair (entry_of e)))
