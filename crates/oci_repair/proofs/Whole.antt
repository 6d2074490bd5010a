-- Which bytes are whole.
use Rattle.std.proofs.Common.{◌≡◌, ℕ, Bool, true, false, not, ◌&&◌, List, [], Option, Some, None, Result, Ok, Err, inl, inr, is_ok, is_some, option_map, refl, sym, ap, subst, ◌∙◌}
use Rattle.std.specs.Prelude.{◌≢◌, IsSome}
use Rattle.std.specs.Option.{unwrap_or}
use Rattle.std.proofs.lemmas.Bool.{cases_Bool}
use Rattle.std.proofs.lemmas.Option.{same_Some}
use Rattle.oci_manifest.specs.Descriptor.{Descriptor}
use Rattle.oci_manifest.specs.MediaTypes.{kind_of}
use Rattle.oci_manifest.specs.declared.kind.Kind.{Kind}
use Rattle.oci_manifest.specs.declared.kind.Kind.TheVariants.{Image, Index, DockerImage, DockerList, Artifact, Leaf}
use Rattle.oci_store.specs.Content.{Matches, succ_of}
use Rattle.oci_store.specs.Push.{Refusal, content_check}
use Rattle.oci_store.proofs.Checks.{content_check-ok, push_check-fresh}
use Rattle.oci_store.proofs.Contents.{IsNew-from_check}
use Rattle.oci_store.proofs.Leaves.{IsChecked-leaf}
use Rattle.oci_layout_store.specs.Blobs.{blob_path, IsNotOf}
use Rattle.oci_dir.specs.Device.{File}
use Rattle.oci_layout_store.specs.Opened.{is_damaged, is_right, is_there, is_whole}
use Rattle.oci_repair.specs.Whole.{has_whole}

checked : (k : Descriptor) (bytes : List ℕ) (r : Result (List Descriptor) Refusal) → content_check k bytes ≡ r → is_ok r ≡ true → Matches k bytes
checked k bytes (Ok ks) e h = (IsNew-from_check [] k bytes ks (push_check-fresh [] k bytes refl ∙ e)).matching
checked k bytes (Err r) e h = cc h

-- bytes that are whole match their key
pub matching : (k : Descriptor) (bytes : List ℕ) → is_ok (content_check k bytes) ≡ true → Matches k bytes
matching k bytes h = checked k bytes (content_check k bytes) refl h

none_whole : (file : File) (k : Descriptor) (o : Option (List ℕ)) → file (blob_path k.digest) ≡ o → ((bytes : List ℕ) → o ≡ Some bytes → Matches k bytes → ⊥) → has_whole file k ≡ false
none_whole file k None at wrong = ap (λ (o : Option (List ℕ)). unwrap_or (option_map (λ (bytes : List ℕ). is_ok (content_check k bytes)) o) false) at
none_whole file k (Some bytes) at wrong =
    ap (λ (o : Option (List ℕ)). unwrap_or (option_map (λ (xs : List ℕ). is_ok (content_check k xs)) o) false) at ∙ elim (cases_Bool (is_ok (content_check k bytes))) [
      | inl right ↦ absurd (wrong bytes refl (matching k bytes right))
      | inr bad ↦ bad
    ]

-- a file that does not match
pub not_of : (file : File) (k : Descriptor) → IsNotOf k (file (blob_path k.digest)) → has_whole file k ≡ false
not_of file k wrong = none_whole file k (file (blob_path k.digest)) refl wrong

-- a leaf that matches
pub leaf_matches : (file : File) (k : Descriptor) (bytes : List ℕ) → kind_of k.media_type ≡ Leaf → file (blob_path k.digest) ≡ Some bytes → Matches k bytes → has_whole file k ≡ true
leaf_matches file k bytes leaf at m =
    ap (λ (o : Option (List ℕ)). unwrap_or (option_map (λ (xs : List ℕ). is_ok (content_check k xs)) o) false) at
    ∙ ap is_ok (content_check-ok k bytes [] (IsChecked-leaf k bytes [] leaf m refl))

same_right : (kind : Kind) (k : Descriptor) (bytes : List ℕ) → kind ≢ Leaf → is_right kind k bytes ≡ is_ok (content_check k bytes)
same_right Image k bytes other = refl
same_right Index k bytes other = refl
same_right DockerImage k bytes other = refl
same_right DockerList k bytes other = refl
same_right Artifact k bytes other = refl
same_right Leaf k bytes other = absurd (other refl)

same_whole : (k : Descriptor) (o : Option (List ℕ)) → kind_of k.media_type ≢ Leaf → unwrap_or (option_map (λ (bytes : List ℕ). is_ok (content_check k bytes)) o) false ≡ unwrap_or (option_map (is_right (kind_of k.media_type) k) o) false
same_whole k None other = refl
same_whole k (Some bytes) other = sym (same_right (kind_of k.media_type) k bytes other)

-- a manifest is whole if an opening holds it as it is
pub manifest_is : (file : File) (k : Descriptor) → kind_of k.media_type ≢ Leaf → has_whole file k ≡ is_whole file k
manifest_is file k other = same_whole k (file (blob_path k.digest)) other

second : (a b : Bool) → (a && not b) ≡ true → b ≡ false
second true true h = cc h
second true false h = refl
second false b h = cc h

pub damaged_is_not : (file : File) (k : Descriptor) → kind_of k.media_type ≢ Leaf → is_damaged true file k ≡ true → has_whole file k ≡ false
damaged_is_not file k other h = manifest_is file k other ∙ second (is_there file k) (is_whole file k) h

unthere : (right : List ℕ → Bool) (o : Option (List ℕ)) → is_some o ≡ false → unwrap_or (option_map right o) false ≡ false
unthere right None h = refl
unthere right (Some bytes) h = cc h

-- there is no file
pub absent_is_not : (file : File) (k : Descriptor) → is_there file k ≡ false → has_whole file k ≡ false
absent_is_not file k gone = unthere (λ (bytes : List ℕ). is_ok (content_check k bytes)) (file (blob_path k.digest)) gone
