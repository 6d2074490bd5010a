-- What holds of each opened entry, and of each new one, holds of each entry that a save writes.
use Rattle.std.proofs.Common.{ℕ, Bool, zero, suc, true, false, cond, List, [], ◌∷◌, ◌++◌, map, ◌&&◌, Option, Some, None, slice_get}
use Rattle.std.specs.Prelude.{IfSome, option_and_then}
use Rattle.std.specs.List.{All}
use Rattle.std.specs.Map.{values_of}
use Rattle.std.proofs.lemmas.List.Elements.{All-head, All-tail, All-nil, All-cons, All-append, All-filter}
use Rattle.oci_manifest.specs.Descriptor.{Descriptor, is_among}
use Rattle.oci_store.specs.Graph.{Node}
use Rattle.oci_store.specs.Tags.{Tags}
use Rattle.oci_layout_store.specs.Entries.{IndexEntry, is_held, is_this_key, new_entry}
use Rattle.oci_layout_store.specs.Saved.{entry_or_new, first_from, is_first, last_place, loose_entries, no_name, saved_entries, tag_entry, unnamed_held}

module _ (P : IndexEntry → Type 0) (Q : Descriptor → Type 0) (new : (k : Descriptor) (name : Option (List ℕ)) → Q k → P (new_entry k name)) where
  all_first : (absent : Descriptor → Bool) (graph : List Node) (tags : Tags) (all : List IndexEntry) (place : ℕ) (es : List IndexEntry) → All P es → All P (first_from absent graph tags all place es)
  all_first absent graph tags all place [] h = All-nil P
  all_first absent graph tags all place (e ∷ es) h =
      let rest : All P (first_from absent graph tags all (suc place) es) = all_first absent graph tags all (suc place) es (All-tail P e es h) in
      elim (is_first absent graph tags all place e.key e.name) as (λ b. All P (cond b (e ∷ first_from absent graph tags all (suc place) es) (first_from absent graph tags all (suc place) es))) [
        | true ↦ All-cons P e (first_from absent graph tags all (suc place) es) (All-head P e es h) rest
        | false ↦ rest
      ]

  at_place : (es : List IndexEntry) (i : ℕ) → All P es → IfSome (slice_get es i) P
  at_place [] i h = tt
  at_place (e ∷ es) zero h = All-head P e es h
  at_place (e ∷ es) (suc i) h = at_place es i (All-tail P e es h)

  at_some : (es : List IndexEntry) (o : Option ℕ) → All P es → IfSome (option_and_then (slice_get es) o) P
  at_some es None h = tt
  at_some es (Some i) h = at_place es i h

  one_tag : (o : Option IndexEntry) (k : Descriptor) (name : List ℕ) → Q k → IfSome o P → P (entry_or_new o k name)
  one_tag None k name q h = new k (Some name) q
  one_tag (Some e) k name q h =
      elim (is_this_key k e.key) as (λ b. P (cond b e (new_entry k (Some name)))) [
        | true ↦ h
        | false ↦ new k (Some name) q
      ]

  all_tags : (entries : List IndexEntry) (ts : Tags) → All P entries → All Q (values_of ts) → All P (map (tag_entry entries) ts)
  all_tags entries [] h q = All-nil P
  all_tags entries (t ∷ ts) h q =
      All-cons P (tag_entry entries t) (map (tag_entry entries) ts)
      (one_tag (option_and_then (slice_get entries) (last_place t.0 entries)) t.1 t.0 (All-head Q t.1 (values_of ts) q) (at_some entries (last_place t.0 entries) h))
      (all_tags entries ts h (All-tail Q t.1 (values_of ts) q))

  all_loose : (loose : List Descriptor) → All Q loose → All P (loose_entries loose)
  all_loose [] q = All-nil P
  all_loose (k ∷ loose) q = All-cons P (new_entry k None) (loose_entries loose) (new k None (All-head Q k loose q)) (all_loose loose (All-tail Q k loose q))

  pub all_saved : (absent : List Descriptor) (entries : List IndexEntry) (graph : List Node) (tags : Tags) (loose : List Descriptor) → All P entries → All Q (values_of tags) → All Q loose
      → All P (saved_entries absent entries graph tags loose)
  all_saved absent entries graph tags loose h tagged untagged =
      All-append P (first_from (is_among absent) graph tags entries 0 entries) (map (tag_entry entries) tags ++ (unnamed_held graph entries ++ loose_entries loose)) (all_first (is_among absent) graph tags entries 0 entries h)
      (All-append P (map (tag_entry entries) tags) (unnamed_held graph entries ++ loose_entries loose) (all_tags entries tags h tagged)
      (All-append P (unnamed_held graph entries) (loose_entries loose) (All-filter (λ (e : IndexEntry). no_name e.name && is_held graph e.key) P entries h) (all_loose loose untagged)))

-- ---- of any keys
pub anything : (ks : List Descriptor) → All (λ (k : Descriptor). Unit {0}) ks
anything [] = All-nil (λ (k : Descriptor). Unit {0})
anything (k ∷ ks) = All-cons (λ (k : Descriptor). Unit {0}) k ks tt (anything ks)
