-- What lasts where a file is put or removed, and where a crash leaves no more.
use Rattle.std.proofs.Common.{◌≡◌, ◌≢◌, ℕ, Bool, true, false, ◌⊎◌, inl, inr, List, [], ◌∷◌, Option, Some, Result, refl, sym, ap, subst, ◌∙◌}
use Rattle.std.specs.Prelude.{IsSome}
use Rattle.std.specs.List.{All}
use Rattle.std.specs.Map.{keys_of}
use Rattle.std.specs.Str.{bytes_eq}
use Rattle.std.proofs.lemmas.Bool.{cases_Bool, false_from_ne_true}
use Rattle.std.proofs.lemmas.List.Elements.{All-nil, All-cons, All-contains, All-head, All-tail, All-weaker}
use Rattle.std.proofs.lemmas.Slice.Eq.{bytes_eq-Decides}
use Rattle.oci_digest.specs.Digest.{IsDigest}
use Rattle.oci_manifest.specs.Descriptor.{Descriptor, IsKey}
use Rattle.oci_store.specs.Content.{Entry}
use Rattle.oci_store.specs.Graph.{Node}
use Rattle.oci_store.specs.Keyed.{value_at, has_key}
use Rattle.oci_store.specs.Push.{AgreesAt}
use Rattle.oci_store.specs.Tags.{Tags}
use Rattle.oci_store.proofs.Lookups.{Contains-from_has_key}
use Rattle.oci_layout_store.specs.Blobs.{blob_path, blob_at, keys_of-stored}
use Rattle.oci_dir.specs.Crash.{NoMore, NoMoreBut, StaysAt, LeavesPut}
use Rattle.oci_layout_store.specs.Keeps.{Keeps, KeepsSettled, Spares}
use Rattle.oci_dir.specs.Device.{Device, File, Same}
use Rattle.oci_layout_store.specs.Index.{index_file, layout_file}
use Rattle.oci_layout_store.specs.Lasts.{Lasts}
use Rattle.oci_dir.specs.Prunable.{IsRemoval}
use Rattle.oci_dir.specs.declared.fault.DirFault.{DirFault}
use Rattle.oci_layout_store.proofs.Files.{blob_layout, some_or}
use Rattle.oci_layout_store.proofs.Prunable.{IsApart, apart-unheld, Touches-removed}
use Rattle.oci_layout_store.proofs.Stored.{HasDigest, digests_of, blob_path-injective, has_key-first, has_key-more, value_at-stored}

abbrev IsThere : File → Node → Type 0
IsThere file n = IsSome (file (blob_path n.0.digest))

-- ---- pushes

-- a file stays where another is put, or the same bytes
stays : (old new : Device) (file : File) (path bytes q : List ℕ) (drafted : List ℕ → Type 0) → old.is_honest → drafted bytes → LeavesPut old new path drafted
    → (bytes_eq path q ≡ false) ⊎ (file path ≡ Some bytes) → StaysAt old file q → StaysAt new file q
stays old new file path bytes q drafted honest is left spares was =
    elim (cases_Bool (bytes_eq path q)) [
      | inr apart ↦ λ x h. was x (left.other q apart x h)
      | inl same ↦ elim spares [
        | inl apart ↦ λ x h. was x (left.other q apart x h)
        | inr here ↦
            let e : path ≡ q = (bytes_eq-Decides path q).0 same in
            subst (λ (p : List ℕ). StaysAt old file p → StaysAt new file p) e
            (λ stayed x h.
            let there : old.file path ≡ Some bytes = stayed (old.file path) (old.stays honest path) ∙ here in
            elim (left.over (subst (λ (o : Option (List ℕ)). IsSome o) (sym there) refl) bytes is x h) [ inl before ↦ stayed x before | inr fresh ↦ fresh ∙ sym here ]) was
      ]
    ]

abbrev IsSpared : File → List ℕ → List ℕ → Node → Type 0
IsSpared file path bytes n = (bytes_eq path (blob_path n.0.digest) ≡ false) ⊎ (file path ≡ Some bytes)

abbrev pub StaysOf : Device → File → Node → Type 0
StaysOf dir file n = StaysAt dir file (blob_path n.0.digest)

blobs_stay : (old new : Device) (file : File) (graph : List Node) (path bytes : List ℕ) (drafted : List ℕ → Type 0) → old.is_honest → drafted bytes → LeavesPut old new path drafted
    → Spares file graph path bytes → All (StaysOf old file) graph → All (StaysOf new file) graph
blobs_stay old new file [] path bytes drafted honest is left spares was = All-nil (StaysOf new file)
blobs_stay old new file (n ∷ graph) path bytes drafted honest is left spares was =
    All-cons (StaysOf new file) n graph
    (stays old new file path bytes (blob_path n.0.digest) drafted honest is left (All-head (IsSpared file path bytes) n graph spares) (All-head (StaysOf old file) n graph was))
    (blobs_stay old new file graph path bytes drafted honest is left (All-tail (IsSpared file path bytes) n graph spares) (All-tail (StaysOf old file) n graph was))

pub blob_index : (d : List ℕ) → bytes_eq (blob_path d) index_file ≡ false
unfolding blob_path index_file
blob_index d = refl

-- a push keeps what a crash leaves of a layout whose files it spares
pub Keeps-put : (old new : Device) (file : File) (graph : List Node) (digest bytes : List ℕ) (drafted : List ℕ → Type 0) → old.is_honest → drafted bytes → LeavesPut old new (blob_path digest) drafted
    → Keeps old file graph → Spares file graph (blob_path digest) bytes → Keeps new file graph
Keeps-put old new file graph digest bytes drafted honest is left keeps spares = record {
  layout = λ x h. keeps.layout x (left.other layout_file (blob_layout digest) x h);
  index = λ x h. keeps.index x (left.other index_file (blob_index digest) x h);
  blobs = blobs_stay old new file graph (blob_path digest) bytes drafted honest is left spares keeps.blobs;
}

spares_of : (file : File) (k : Descriptor) (bytes : List ℕ) (graph : List Node) → IsDigest k.digest → All HasDigest graph → All (IsThere file) graph
    → ((other : Descriptor) → has_key graph other ≡ true → other.digest ≡ k.digest → blob_at file other.digest ≡ bytes) → Spares file graph (blob_path k.digest) bytes
spares_of file k bytes [] is digests there agree = All-nil (IsSpared file (blob_path k.digest) bytes)
spares_of file k bytes (n ∷ graph) is digests there agree =
    All-cons (IsSpared file (blob_path k.digest) bytes) n graph
    (elim (cases_Bool (bytes_eq (blob_path k.digest) (blob_path n.0.digest))) [
      | inr apart ↦ inl apart
      | inl same ↦
          let path : blob_path k.digest ≡ blob_path n.0.digest = (bytes_eq-Decides (blob_path k.digest) (blob_path n.0.digest)).0 same in
          let digest : k.digest ≡ n.0.digest = blob_path-injective k.digest n.0.digest is (All-head HasDigest n graph digests) path in
          inr (ap file path ∙ some_or (file (blob_path n.0.digest)) (All-head (IsThere file) n graph there) ∙ ap Some (agree n.0 (has_key-first n graph) (sym digest)))
    ])
    (spares_of file k bytes graph is (All-tail HasDigest n graph digests) (All-tail (IsThere file) n graph there) (λ other h same. agree other (has_key-more n graph other h) same))

-- a push of bytes that each such content with the digest has keeps what lasts
pub Lasts-put : (old new : Device) (entries : List Entry) (tags : Tags) (k : Descriptor) (bytes : List ℕ) (drafted : List ℕ → Type 0) → IsDigest k.digest → drafted bytes → (old.is_honest → new.is_honest)
    → (old.is_honest → LeavesPut old new (blob_path k.digest) drafted) → AgreesAt entries k bytes → Lasts old entries tags → Lasts new entries tags
Lasts-put old new entries tags k bytes drafted is is_drafted honest left agrees lasts =
    let file = lasts.file in
    let layout = lasts.layout in
    let graph = lasts.graph in
    let agree : (other : Descriptor) → has_key graph other ≡ true → other.digest ≡ k.digest → blob_at file other.digest ≡ bytes =
    λ other h same. agrees other (blob_at file other.digest) (ap (λ (es : List Entry). value_at es other) (sym layout.contents) ∙ value_at-stored file graph other h) same in
    record {
      is_honest = honest lasts.is_honest;
      file = file;
      graph = graph;
      layout = layout;
      keeps = Keeps-put old new file graph k.digest bytes drafted lasts.is_honest is_drafted (left lasts.is_honest) lasts.keeps
          (spares_of file k bytes graph is (digests_of graph layout.are_keys) layout.are_there agree);
    }

-- ---- other calls

-- what lasts stays where a crash leaves no more
pub Lasts-no_more : (old new : Device) (entries : List Entry) (tags : Tags) → (old.is_honest → new.is_honest) → (old.is_honest → NoMore old new) → Lasts old entries tags → Lasts new entries tags
Lasts-no_more old new entries tags honest no_more lasts = record {
  is_honest = honest lasts.is_honest;
  file = lasts.file;
  graph = lasts.graph;
  layout = lasts.layout;
  keeps = record {
    layout = λ x h. lasts.keeps.layout x (no_more lasts.is_honest layout_file x h);
    index = λ x h. lasts.keeps.index x (no_more lasts.is_honest index_file x h);
    blobs = All-weaker (StaysOf old lasts.file) (StaysOf new lasts.file) (λ n was x h. was x (no_more lasts.is_honest (blob_path n.0.digest) x h)) lasts.graph lasts.keeps.blobs;
  };
}

blobs_stay-apart : (old new : Device) (file : File) (path : List ℕ) (graph : List Node) → NoMoreBut old new path → All (IsApart path) graph → All (StaysOf old file) graph → All (StaysOf new file) graph
blobs_stay-apart old new file path [] other apart was = All-nil (StaysOf new file)
blobs_stay-apart old new file path (n ∷ graph) other apart was =
    All-cons (StaysOf new file) n graph (λ x h. All-head (StaysOf old file) n graph was x (other (blob_path n.0.digest) (All-head (IsApart path) n graph apart) x h))
    (blobs_stay-apart old new file path graph other (All-tail (IsApart path) n graph apart) (All-tail (StaysOf old file) n graph was))

-- and where it leaves no more but of a file that the layout does not have
Lasts-but : (old new : Device) (entries : List Entry) (tags : Tags) (path : List ℕ) → (old.is_honest → new.is_honest) → (old.is_honest → NoMoreBut old new path)
    → bytes_eq path layout_file ≡ false → bytes_eq path index_file ≡ false → (lasts : Lasts old entries tags) → All (IsApart path) lasts.graph → Lasts new entries tags
Lasts-but old new entries tags path honest other no_layout no_index lasts apart = record {
  is_honest = honest lasts.is_honest;
  file = lasts.file;
  graph = lasts.graph;
  layout = lasts.layout;
  keeps = record {
    layout = λ x h. lasts.keeps.layout x (other lasts.is_honest layout_file no_layout x h);
    index = λ x h. lasts.keeps.index x (other lasts.is_honest index_file no_index x h);
    blobs = blobs_stay-apart old new lasts.file path lasts.graph (other lasts.is_honest) apart lasts.keeps.blobs;
  };
}

no_more-removed : (old new : Device) (path : List ℕ) (answer : Result Bool DirFault) → IsRemoval old new path answer → old.is_honest → NoMoreBut old new path
no_more-removed old new path answer removal honest q apart x h = elim (removal.left honest q x h) [ inl was ↦ was | inr here ↦ cc (here.0, apart) ]

abbrev pub HasOther : List ℕ → Entry → Type 0
HasOther digest e = e.0.digest ≢ digest

unheld_keys : (digest : List ℕ) (entries : List Entry) → All (HasOther digest) entries → All (λ (k : Descriptor). k.digest ≢ digest) (keys_of entries)
unheld_keys digest [] other = All-nil (λ (k : Descriptor). k.digest ≢ digest)
unheld_keys digest (e ∷ entries) other =
    All-cons (λ (k : Descriptor). k.digest ≢ digest) e.0 (keys_of entries) (All-head (HasOther digest) e entries other) (unheld_keys digest entries (All-tail (HasOther digest) e entries other))

-- the removal of the file of a digest that no such content has keeps what lasts
pub Lasts-removed : (old new : Device) (entries : List Entry) (tags : Tags) (digest : List ℕ) (answer : Result Bool DirFault) → IsDigest digest → IsRemoval old new (blob_path digest) answer
    → All (HasOther digest) entries → Lasts old entries tags → Lasts new entries tags
Lasts-removed old new entries tags digest answer is removal other lasts =
    let layout = lasts.layout in
    let keys : keys_of lasts.graph ≡ keys_of entries = keys_of-stored lasts.file lasts.graph ∙ ap (λ (es : List Entry). keys_of es) layout.contents in
    let unheld = subst (λ (ks : List Descriptor). All (λ (k : Descriptor). k.digest ≢ digest) ks) (sym keys) (unheld_keys digest entries other) in
    Lasts-but old new entries tags (blob_path digest) removal.device.honest.0 (no_more-removed old new (blob_path digest) answer removal) (blob_layout digest) (blob_index digest) lasts
    (apart-unheld digest lasts.graph is layout.are_keys unheld)

-- a removal of a file that no held key has leaves the files of held keys as settled as they were
pub KeepsSettled-removed : (old new : Device) (graph : List Node) (digest : List ℕ) (answer : Result Bool DirFault) → IsDigest digest → All IsKey (keys_of graph) → All (λ (k : Descriptor). k.digest ≢ digest) (keys_of graph)
    → IsRemoval old new (blob_path digest) answer → KeepsSettled old new graph
KeepsSettled-removed old new graph digest answer is keys unheld removal honest k held was left may =
    let there = Contains-from_has_key graph k held in
    let path = blob_path k.digest in
    let other = All-contains (λ (h : Descriptor). h.digest ≢ digest) (keys_of graph) k unheld there in
    let key = All-contains IsKey (keys_of graph) k keys there in
    let apart = false_from_ne_true (bytes_eq (blob_path digest) path) (λ same. other (sym (blob_path-injective digest k.digest is key.is_digest ((bytes_eq-Decides (blob_path digest) path).0 same)))) in
    was left (no_more-removed old new (blob_path digest) answer removal honest path apart left may) ∙ sym (Touches-removed old new (blob_path digest) answer removal honest path apart)

-- where nothing is left of a file that was not before, and no file changed, each is as settled as it was
pub KeepsSettled-same : (old new : Device) (graph : List Node) → (old.is_honest → Same old.file new.file) → (old.is_honest → NoMore old new) → KeepsSettled old new graph
KeepsSettled-same old new graph same no_more honest k held was left may = was left (no_more honest (blob_path k.digest) left may) ∙ sym (same honest (blob_path k.digest))
