-- A layout after a file was removed that none of its keys has.
use Rattle.std.proofs.Common.{◌≡◌, ◌≢◌, ℕ, false, List, [], ◌∷◌, Bool, Option, Result, Ok, Err, refl, sym, ap, subst, ◌∙◌}
use Rattle.std.specs.Prelude.{IsSome}
use Rattle.std.specs.List.{All}
use Rattle.std.specs.Map.{keys_of}
use Rattle.std.specs.Option.{unwrap_or}
use Rattle.std.specs.Str.{bytes_eq}
use Rattle.std.proofs.lemmas.Bool.{false_from_ne_true}
use Rattle.std.proofs.lemmas.List.Elements.{All-nil, All-cons, All-head, All-tail}
use Rattle.std.proofs.lemmas.Slice.Eq.{bytes_eq-Decides}
use Rattle.oci_digest.specs.Digest.{IsDigest}
use Rattle.oci_manifest.specs.Descriptor.{Descriptor, IsKey}
use Rattle.oci_store.specs.Content.{Entry, IsContent}
use Rattle.oci_store.specs.Graph.{Node, nodes_of}
use Rattle.oci_store.specs.Tags.{Tags}
use Rattle.oci_layout_store.specs.Blobs.{blob_path, blob_at, stored, IsSound}
use Rattle.oci_dir.specs.Device.{Device, File, Touches}
use Rattle.oci_layout_store.specs.Files.{IsLayout}
use Rattle.oci_layout_store.specs.Index.{layout_file}
use Rattle.oci_layout_store.specs.Layout.{LayoutState, OnlyFile, SameMemory}
use Rattle.oci_dir.specs.Prunable.{IsRemoval}
use Rattle.oci_dir.specs.declared.fault.DirFault.{DirFault}
use Rattle.oci_layout_store.proofs.Files.{HasLayoutFile-stays}
use Rattle.oci_layout_store.proofs.Stored.{blob_path-injective}

-- a removal touches the file at its path alone
pub Touches-removed : (old new : Device) (path : List ℕ) (answer : Result Bool DirFault) → IsRemoval old new path answer → old.is_honest → Touches old.file new.file path
Touches-removed old new path (Ok found) removal honest = λ q apart. removal.removed honest q ∙ rw apart refl
Touches-removed old new path (Err e) removal honest = λ q apart. removal.refused honest q

-- the path is not that of a node's file
abbrev pub IsApart : List ℕ → Node → Type 0
IsApart path n = bytes_eq path (blob_path n.0.digest) ≡ false

pub stored-apart : (old new : File) (path : List ℕ) (graph : List Node) → All (IsApart path) graph → Touches old new path → stored new graph ≡ stored old graph
stored-apart old new path [] apart touches = refl
stored-apart old new path (n ∷ graph) apart touches =
    ap (λ (o : Option (List ℕ)). (n.0, unwrap_or o []) ∷ stored new graph) (touches (blob_path n.0.digest) (All-head (IsApart path) n graph apart))
    ∙ ap (λ (rest : List Entry). (n.0, blob_at old n.0.digest) ∷ rest) (stored-apart old new path graph (All-tail (IsApart path) n graph apart) touches)

abbrev IsThere : File → Node → Type 0
IsThere file n = IsSome (file (blob_path n.0.digest))

all_there : (old new : File) (path : List ℕ) (graph : List Node) → All (IsApart path) graph → Touches old new path → All (IsThere old) graph → All (IsThere new) graph
all_there old new path [] apart touches there = All-nil (IsThere new)
all_there old new path (n ∷ graph) apart touches there =
    All-cons (IsThere new) n graph
    (subst (λ (o : Option (List ℕ)). IsSome o) (sym (touches (blob_path n.0.digest) (All-head (IsApart path) n graph apart))) (All-head (IsThere old) n graph there))
    (all_there old new path graph (All-tail (IsApart path) n graph apart) touches (All-tail (IsThere old) n graph there))

pub IsSound-apart : (H H' : Type 0) (old new : File) (path : List ℕ) (graph : List Node) → (H → H') → All (IsApart path) graph → Touches old new path → IsSound H old graph → IsSound H' new graph
IsSound-apart H H' old new path graph honest apart touches sound =
    let all = stored-apart old new path graph apart touches in
    record {
      is_honest = honest sound.is_honest;
      are_there = all_there old new path graph apart touches sound.are_there;
      content = subst IsContent (sym all) sound.content;
      listed = sound.listed ∙ ap nodes_of (sym all);
    }

-- the file of a digest that no held key has
pub apart-unheld : (digest : List ℕ) (graph : List Node) → IsDigest digest → All IsKey (keys_of graph) → All (λ (k : Descriptor). k.digest ≢ digest) (keys_of graph) → All (IsApart (blob_path digest)) graph
apart-unheld digest [] is keys unheld = All-nil (IsApart (blob_path digest))
apart-unheld digest (n ∷ graph) is keys unheld =
    let other = All-head (λ (k : Descriptor). k.digest ≢ digest) n.0 (keys_of graph) unheld in
    let key = All-head IsKey n.0 (keys_of graph) keys in
    All-cons (IsApart (blob_path digest)) n graph
    (false_from_ne_true (bytes_eq (blob_path digest) (blob_path n.0.digest))
    (λ same. other (sym (blob_path-injective digest n.0.digest is key.is_digest ((bytes_eq-Decides (blob_path digest) (blob_path n.0.digest)).0 same)))))
    (apart-unheld digest graph is (All-tail IsKey n.0 (keys_of graph) keys) (All-tail (λ (k : Descriptor). k.digest ≢ digest) n.0 (keys_of graph) unheld))

-- what a layout keeps true is true after the removal of another file than `oci-layout`
pub IsLayout-removed : (old new : Device) (graph : List Node) (tags : Tags) (path : List ℕ) (answer : Result Bool DirFault) → bytes_eq path layout_file ≡ false
    → IsRemoval old new path answer → IsLayout old graph tags → IsLayout new graph tags
IsLayout-removed old new graph tags path answer apart removal is = record {
  names = is.names;
  has_layout_file = λ honest. (let h = removal.device.honest.1 honest in HasLayoutFile-stays old.file new.file path (Touches-removed old new path answer removal h) apart (is.has_layout_file h));
}

-- a removal of a file that no held key has leaves what a layout has in memory, and its contents
pub OnlyFile-removed : {D : Type 0} (device : D → Device) (old new : LayoutState D) (path : List ℕ) (answer : Result Bool DirFault) → SameMemory old new → All (IsApart path) old.graph → IsRemoval (device old.dir) (device new.dir) path answer → OnlyFile device old new path
OnlyFile-removed device old new path answer memory apart removal =
    let was = device old.dir in
    let is = device new.dir in
    let touches = Touches-removed was is path answer removal in
    record {
      other = touches;
      files = record {
        memory = memory;
        contents = λ honest. stored-apart was.file is.file path old.graph apart (touches honest);
        sound = rw memory.graph (λ sound. IsSound-apart was.is_honest is.is_honest was.file is.file path old.graph removal.device.honest.0 apart (touches sound.is_honest) sound);
      };
      draft = removal.draft;
      same = removal.device;
    }
