-- Entries of tags have names.
use Rattle.std.proofs.Common.{◌≡◌, ℕ, false, ◌≢◌, List, [], ◌∷◌, map, Some, refl, ap, ◌∙◌}
use Rattle.std.specs.List.{All}
use Rattle.std.specs.Map.{keys_of}
use Rattle.std.proofs.lemmas.List.Elements.{All-head, All-tail, All-nil, All-cons}
use Rattle.oci_store.specs.Tags.{Tags}
use Rattle.oci_layout_store.specs.Entries.{IndexEntry}
use Rattle.oci_layout_store.specs.Saved.{no_name, tag_entry}
use Rattle.oci_layout_store.proofs.SavedTags.{tag_name}

full_name : (name : List ℕ) → name ≢ [] → no_name (Some name) ≡ false
full_name [] full = absurd (full refl)
full_name (c ∷ cs) full = refl

pub tags_named : (entries : List IndexEntry) (us : Tags) → All (λ (m : List ℕ). m ≢ []) (keys_of us) → All (λ (e : IndexEntry). no_name e.name ≡ false) (map (tag_entry entries) us)
tags_named entries [] full = All-nil (λ (e : IndexEntry). no_name e.name ≡ false)
tags_named entries (t ∷ us) full =
    All-cons (λ (e : IndexEntry). no_name e.name ≡ false) (tag_entry entries t) (map (tag_entry entries) us) (ap no_name (tag_name entries t) ∙ full_name t.0 (All-head (λ (m : List ℕ). m ≢ []) t.0 (keys_of us) full))
    (tags_named entries us (All-tail (λ (m : List ℕ). m ≢ []) t.0 (keys_of us) full))
