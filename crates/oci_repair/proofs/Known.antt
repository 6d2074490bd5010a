-- What is known of the files of a layout that was opened as it is, and whose corrupt keys were found.
use Rattle.std.proofs.Common.{◌≡◌, ℕ, Bool, true, false, cond, inl, inr, List, [], ◌∷◌, map, length, Option, Some, None, option_map, is_ok, is_some, ◌⊎◌, refl, sym, ap, subst, ◌∙◌}
use Rattle.std.specs.Prelude.{◌≢◌, ◌==◌, Contains}
use Rattle.std.specs.List.{All, filter}
use Rattle.std.specs.Option.{unwrap_or}
use Rattle.std.proofs.lemmas.Bool.{cases_Bool, eq-eqb}
use Rattle.std.proofs.lemmas.List.Elements.{All-nil, All-cons}
use Rattle.oci_layout_store.specs.Blobs.{blob_at, blob_path}
use Rattle.oci_dir.specs.Device.{File}
use Rattle.oci_layout_store.specs.Layout.{OpenedIndex}
use Rattle.oci_layout_store.specs.Opened.{is_damaged, is_right, is_whole, listed_in, IsOpenedAsIs}
use Rattle.oci_layout_store.proofs.Walk.{held_sound}
use Rattle.oci_manifest.specs.Descriptor.{Descriptor, is_among}
use Rattle.oci_manifest.specs.MediaTypes.{kind_of}
use Rattle.oci_manifest.specs.declared.kind.Kind.{Kind}
use Rattle.oci_manifest.specs.declared.kind.Kind.TheVariants.{Image, Index, DockerImage, DockerList, Artifact, Leaf}
use Rattle.oci_store.specs.Content.{Matches}
use Rattle.oci_store.specs.Graph.{Node}
use Rattle.oci_store.specs.Keyed.{has_key, value_at}
use Rattle.oci_store.specs.Push.{content_check}
use Rattle.oci_store.specs.Tags.{Tags}
use Rattle.oci_store.proofs.Lookups.{All-value_at}
use Rattle.oci_store.proofs.Membership.{Contains-from_among, among_from_Contains, among-filter}
use Rattle.oci_verify.specs.Corrupt.{AreCorrupt}
use Rattle.oci_verify.specs.Intact.{is_match, is_matching}
use Rattle.oci_verify.proofs.Intact.{Decides-is_match}
use Rattle.oci_repair.specs.Planned.{Knows}
use Rattle.oci_repair.specs.Whole.{has_whole}
use Rattle.oci_repair.proofs.Whole.{leaf_matches, manifest_is, matching}

-- ---- a whole file

sized : (kind : Kind) (k : Descriptor) (bytes : List ℕ) → is_ok (content_check k bytes) ≡ true → is_right kind k bytes ≡ true
sized Leaf k bytes h = eq-eqb (length bytes) k.size (matching k bytes h).0
sized Image k bytes h = h
sized Index k bytes h = h
sized DockerImage k bytes h = h
sized DockerList k bytes h = h
sized Artifact k bytes h = h

held_by : (k : Descriptor) (o : Option (List ℕ)) → unwrap_or (option_map (λ (bytes : List ℕ). is_ok (content_check k bytes)) o) false ≡ true → unwrap_or (option_map (is_right (kind_of k.media_type) k) o) false ≡ true
held_by k None h = cc h
held_by k (Some bytes) h = sized (kind_of k.media_type) k bytes h

-- an opening holds it as it is
whole_held : (file : File) (k : Descriptor) → has_whole file k ≡ true → is_whole file k ≡ true
whole_held file k h = held_by k (file (blob_path k.digest)) h

matched_by : (k : Descriptor) (o : Option (List ℕ)) → unwrap_or (option_map (λ (bytes : List ℕ). is_ok (content_check k bytes)) o) false ≡ true → is_match k (unwrap_or o []) ≡ true
matched_by k None h = cc h
matched_by k (Some bytes) h = (Decides-is_match k bytes).1 (matching k bytes h)

-- and it matches
whole_matches : (file : File) (k : Descriptor) → has_whole file k ≡ true → is_matching file k ≡ true
whole_matches file k h = matched_by k (file (blob_path k.digest)) h

not_whole : (file : File) (k : Descriptor) → (has_whole file k ≡ true → ⊥) → has_whole file k ≡ false
not_whole file k wrong = elim (cases_Bool (has_whole file k)) [ inl is ↦ absurd (wrong is) | inr is_not ↦ is_not ]

-- ---- what the graph has

-- a key is whole, with what its file lists
abbrev IsListed : File → Node → Type 0
IsListed file n = (n.1 ≡ listed_in file n.0) × (is_whole file n.0 ≡ true)

all_listed : (file : File) (ks : List Descriptor) → All (IsListed file) (map (λ (k : Descriptor). (k, listed_in file k)) (filter (is_whole file) ks))
all_listed file [] = All-nil (IsListed file)
all_listed file (k ∷ ks) =
    elim (cases_Bool (is_whole file k)) [
      | inl is ↦ subst (λ (b : Bool). All (IsListed file) (map (λ (x : Descriptor). (x, listed_in file x)) (cond b (k ∷ filter (is_whole file) ks) (filter (is_whole file) ks)))) (sym is)
          (All-cons (IsListed file) (k, listed_in file k) (map (λ (x : Descriptor). (x, listed_in file x)) (filter (is_whole file) ks)) (refl, is) (all_listed file ks))
      | inr is_not ↦ subst (λ (b : Bool). All (IsListed file) (map (λ (x : Descriptor). (x, listed_in file x)) (cond b (k ∷ filter (is_whole file) ks) (filter (is_whole file) ks)))) (sym is_not) (all_listed file ks)
    ]

there : (right : List ℕ → Bool) (o : Option (List ℕ)) → unwrap_or (option_map right o) false ≡ true → o ≡ Some (unwrap_or o [])
there right None h = cc h
there right (Some bytes) h = refl

undamaged : (file : File) (ks : List Descriptor) (k : Descriptor) → is_among (filter (is_damaged true file) ks) k ≡ true → is_whole file k ≡ true → ⊥
undamaged file ks k h whole = cc (sym (among-filter (is_damaged true file) ks k h).0 ∙ held_sound true file k whole)

-- ---- both

leaf_known : (file : File) (k : Descriptor) → kind_of k.media_type ≡ Leaf → is_whole file k ≡ true → is_matching file k ≡ true → has_whole file k ≡ true
leaf_known file k leaf held is =
    leaf_matches file k (blob_at file k.digest) leaf (there (is_right (kind_of k.media_type) k) (file (blob_path k.digest)) held) ((Decides-is_match k (blob_at file k.digest)).0 is)

kind_cases : (kind : Kind) → (kind ≡ Leaf) ⊎ (kind ≢ Leaf)
kind_cases Leaf = inl refl
kind_cases Image = inr (λ h. cc h)
kind_cases Index = inr (λ h. cc h)
kind_cases DockerImage = inr (λ h. cc h)
kind_cases DockerList = inr (λ h. cc h)
kind_cases Artifact = inr (λ h. cc h)

pub Knows-opened : (file : File) (graph : List Node) (tags : Tags) (index : OpenedIndex) (corrupt : List Descriptor) (is_corrupt : Descriptor → Bool) → IsOpenedAsIs file graph tags index → AreCorrupt file graph index.damaged corrupt
    → ((k : Descriptor) → is_corrupt k ≡ is_among corrupt k) → Knows file graph is_corrupt
Knows-opened file graph tags index corrupt is_corrupt opened are same = record {
  corrupt = λ k is. not_whole file k (λ whole.
      elim ((are.each k).0 (Contains-from_among corrupt k (sym (same k) ∙ is))) [
        | inl damaged ↦ undamaged file opened.read.walked.visited k
            (subst (λ (ks : List Descriptor). is_among ks k ≡ true) opened.read.damaged_is (among_from_Contains index.damaged k damaged)) (whole_held file k whole)
        | inr wrong ↦ cc (sym (whole_matches file k whole) ∙ wrong.1)
      ]);
  held = λ k links clean at. (
      let p : IsListed file (k, links) = All-value_at (IsListed file) graph k links (subst (All (IsListed file)) (sym opened.read.walked.held) (all_listed file opened.read.walked.visited)) at in
      (known k links clean at p.1, p.0));
}
  where
    known : (k : Descriptor) (links : List Descriptor) → is_corrupt k ≡ false → value_at graph k ≡ Some links → is_whole file k ≡ true → has_whole file k ≡ true
    known k links clean at whole = elim (kind_cases (kind_of k.media_type)) [
      | inr other ↦ manifest_is file k other ∙ whole
      | inl leaf ↦ elim (cases_Bool (is_matching file k)) [
        | inl is ↦ leaf_known file k leaf whole is
        | inr wrong ↦ cc (sym clean ∙ same k ∙ among_from_Contains corrupt k ((are.each k).1 (inr (ap is_some at, wrong))))
      ]
    ]
