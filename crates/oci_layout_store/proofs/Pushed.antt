-- What a layout is after a key was noted, its file put, and the key taken back if the file was not.
use Rattle.std.proofs.Common.{◌≡◌, false, inl, inr, ℕ, List, [], ◌∷◌, ◌++◌, length, Result, Ok, Err, refl, sym, subst, ◌∙◌, arith}
use Rattle.std.specs.Prelude.{◌<◌, ⊤, OnOk, IsErrOf}
use Rattle.std.specs.List.{All}
use Rattle.std.specs.Map.{keys_of}
use Rattle.oci_digest.proofs.DigestLemmas.{IsDigest-from_Verifies}
use Rattle.oci_manifest.specs.Descriptor.{Descriptor, IsKey}
use Rattle.oci_store.specs.Content.{Entry}
use Rattle.oci_store.specs.Graph.{Node}
use Rattle.oci_store.specs.Keyed.{has_key}
use Rattle.oci_store.specs.Parts.{IsLostPush}
use Rattle.oci_store.specs.Push.{AgreesAt, closed_check, Refusal, Refused, IsCalm, IsRaised, IsPush}
use Rattle.oci_store.specs.Tags.{Tags, AreNames}
use Rattle.oci_store.proofs.Contents.{IsNew, IsNew-successors}
use Rattle.oci_store.proofs.Leaves.{leaf_check-fresh}
use Rattle.oci_store.proofs.References.{AreNames-pushed}
use Rattle.oci_layout_store.specs.Blobs.{blob_path}
use Rattle.oci_layout_store.specs.Lasts.{Lasts}
use Rattle.oci_layout_store.specs.Meaning.{meaning}
use Rattle.oci_dir.specs.Device.{Device, IsPut, Same}
use Rattle.oci_dir.specs.Faults.{push_fault}
use Rattle.oci_layout_store.specs.Push.{Settles}
use Rattle.oci_layout_store.specs.Files.{IsLayout}
use Rattle.oci_dir.specs.declared.fault.DirFault.{DirFault}
use Rattle.oci_dir.specs.declared.fault.DirFault.TheVariants as dir
use Rattle.oci_layout_store.proofs.Files.{HasLayoutFile-stays, blob_layout}
use Rattle.oci_layout_store.proofs.Stored.{digests_of, stored-pushed, stored-same, IsSound-pushed, IsSound-same}
use Rattle.oci_store.specs.declared.fault.PushFault.{PushFault}
use Rattle.oci_store.specs.declared.fault.PushFault.TheVariants as push

-- a put that was refused while no put failed left all files
same_files : (old new : Device) (path : List ℕ) (drafted : List ℕ → Type 0) (e : DirFault) → IsPut old new path drafted (Err e) → old.is_honest → IsCalm old.failures new.failures → Same old.file new.file
same_files old new path drafted dir.Failed put honest calm = elim (put.device.raised refl) [ inl more ↦ absurd (omega (arith, more, calm.0)) | inr most ↦ absurd (omega (arith, most.1, calm.1)) ]
same_files old new path drafted dir.Memory put honest calm = put.memory refl honest

-- the layout keeps what it keeps true
names_settled : (graph noted grown : List Node) (tags : Tags) (n : Node) (place : ℕ) (answer : Result Unit DirFault) (r : Result ℕ PushFault)
    → noted ≡ graph ++ n ∷ [] → Settles place noted grown answer r → AreNames graph tags → AreNames grown tags
names_settled graph noted grown tags n place (Ok done) r pushed settled names = AreNames-pushed graph grown n tags names (settled.1 ∙ pushed)
names_settled graph noted grown tags n place (Err e) r pushed settled names = subst (λ (g : List Node). AreNames g tags) (sym (settled.1 graph n pushed)) names

pub IsLayout-settled : (old new : Device) (graph noted grown : List Node) (tags : Tags) (n : Node) (digest : List ℕ) (drafted : List ℕ → Type 0) (place : ℕ) (answer : Result Unit DirFault) (r : Result ℕ PushFault)
    → noted ≡ graph ++ n ∷ [] → IsPut old new (blob_path digest) drafted answer → Settles place noted grown answer r → IsLayout old graph tags → IsLayout new grown tags
IsLayout-settled old new graph noted grown tags n digest drafted place answer r pushed put settled is = record {
  names = names_settled graph noted grown tags n place answer r pushed settled is.names;
  has_layout_file = λ honest. (let h = put.device.honest.1 honest in HasLayoutFile-stays old.file new.file (blob_path digest) (put.other h) (blob_layout digest) (is.has_layout_file h));
}

-- what a push that took its key back answers
fails : (old new : Device) (path : List ℕ) (drafted : List ℕ → Type 0) (e : DirFault) → IsPut old new path drafted (Err e) → IsErrOf {T = ℕ} (Err (push_fault e)) push.Device → IsRaised old.failures new.failures
fails old new path drafted dir.Failed put is = put.device.raised refl
fails old new path drafted dir.Memory put is = absurd (cc is)

raises : (old new : Device) (path : List ℕ) (drafted : List ℕ → Type 0) (e : DirFault) → IsPut old new path drafted (Err e) → old.failures < new.failures → IsErrOf {T = ℕ} (Err (push_fault e)) push.Device
raises old new path drafted dir.Failed put less = refl
raises old new path drafted dir.Memory put less = absurd (cc (put.device.calm less))

never_halted : (e : DirFault) → IsErrOf {T = ℕ} (Err (push_fault e)) push.Halted → ⊥
never_halted dir.Failed is = cc is
never_halted dir.Memory is = cc is

refused : (e : DirFault) (check : Result (List Descriptor) Refusal) (listed : List Descriptor) → check ≡ Ok listed → Refused (push_fault e) check
refused dir.Failed check listed h = (listed, h)
refused dir.Memory check listed h = tt

taken_back : (old new : Device) (graph grown : List Node) (tags : Tags) (k : Descriptor) (bytes : List ℕ) (listed : List Descriptor) (drafted : List ℕ → Type 0) (e : DirFault)
    → closed_check graph k bytes ≡ Ok listed → grown ≡ graph → IsPut old new (blob_path k.digest) drafted (Err e) → ((entries : List Entry) (names : Tags) → AgreesAt entries k bytes → Lasts old entries names → Lasts new entries names)
    → IsPush ⊤ (meaning old graph tags) (meaning new grown tags) (k, bytes) (Err (push_fault e))
taken_back old new graph grown tags k bytes listed drafted e checked back put lasts = rw back (record {
  keys = record { place = tt; pushed = tt; refused = refl; checked = refused e _ listed checked };
  bytes = record {
    pushed = tt;
    refused = λ u. stored-same old.file new.file graph (same_files old new (blob_path k.digest) drafted e put u.is_sound.is_honest u.is_calm);
    sound = λ u. IsSound-same old.is_honest new.is_honest old.file new.file graph put.device.honest.0 (same_files old new (blob_path k.digest) drafted e put u.is_sound.is_honest u.is_calm) u.is_sound;
  };
  failures = put.device.failures;
  device = fails old new (blob_path k.digest) drafted e put;
  calm = raises old new (blob_path k.digest) drafted e put;
  halted = λ is_halted. absurd (never_halted e is_halted);
  running = λ is_halted. absurd is_halted;
  taken = tt;
  stays = λ is_halted. is_halted;
  tags = refl;
  name = refl;
  lasts = lasts;
})

-- a push of what was drafted
pub IsPush-settled : (old new : Device) (graph noted grown : List Node) (tags : Tags) (k : Descriptor) (bytes : List ℕ) (ks listed : List Descriptor) (drafted : List ℕ → Type 0)
    → (answer : Result Unit DirFault) (r : Result ℕ PushFault) → All IsKey (keys_of graph) → IsNew graph k bytes ks → closed_check graph k bytes ≡ Ok listed → drafted bytes
    → noted ≡ graph ++ (k, ks) ∷ [] → IsPut old new (blob_path k.digest) drafted answer → Settles (length graph) noted grown answer r
    → ((entries : List Entry) (names : Tags) → AgreesAt entries k bytes → Lasts old entries names → Lasts new entries names)
    → IsPush ⊤ (meaning old graph tags) (meaning new grown tags) (k, bytes) r
IsPush-settled old new graph noted grown tags k bytes ks listed drafted (Ok done) r keys passed checked is_drafted pushed put settled lasts =
    let digests = digests_of graph keys in
    let is = IsDigest-from_Verifies k.digest bytes passed.matching.1 in
    let successors = IsNew-successors graph k bytes ks passed in
    let e : grown ≡ graph ++ (k, ks) ∷ [] = settled.1 ∙ pushed in
    let place = settled.0 in
    rw place (record {
      keys = record { place = refl; pushed = rw (← successors) e; refused = tt; checked = (listed, checked) };
      bytes = record {
        pushed = λ u. stored-pushed old.file new.file k bytes ks graph grown is digests (put.put u.is_sound.is_honest bytes is_drafted) (u.agrees tt) e;
        refused = tt;
        sound = λ u. IsSound-pushed old.is_honest new.is_honest old.file new.file k bytes ks graph grown
            put.device.honest.0 is digests passed successors (put.put u.is_sound.is_honest bytes is_drafted) (u.agrees tt) e u.is_sound;
      };
      failures = put.device.failures;
      device = λ fails. absurd (cc fails);
      calm = λ less. absurd (cc (put.device.calm less));
      halted = λ is_halted. absurd (cc is_halted);
      running = λ is_halted. absurd is_halted;
      taken = λ is_halted. is_halted;
      stays = λ is_halted. is_halted;
      tags = refl;
      name = refl;
      lasts = lasts;
    })
IsPush-settled old new graph noted grown tags k bytes ks listed drafted (Err fault) r keys passed checked is_drafted pushed put settled lasts =
    let back : grown ≡ graph = settled.1 graph (k, ks) pushed in
    let fault_is = settled.0 in
    rw fault_is (taken_back old new graph grown tags k bytes listed drafted fault checked back put lasts)

-- a push of a draft that is lost: its put is never one that passed
pub IsLostPush-settled : (old new : Device) (graph noted grown : List Node) (tags : Tags) (k : Descriptor) (ks : List Descriptor) (drafted : List ℕ → Type 0) (place : ℕ)
    → (answer : Result Unit DirFault) (r : Result ℕ PushFault) → has_key graph k ≡ false → OnOk answer ⊥
    → noted ≡ graph ++ (k, ks) ∷ [] → IsPut old new (blob_path k.digest) drafted answer → Settles place noted grown answer r
    → ((entries : List Entry) (names : Tags) → Lasts old entries names → Lasts new entries names)
    → IsLostPush (meaning old graph tags) (meaning new grown tags) k r
IsLostPush-settled old new graph noted grown tags k ks drafted place (Ok done) r absent lost pushed put settled lasts = absurd lost
IsLostPush-settled old new graph noted grown tags k ks drafted place (Err e) r absent lost pushed put settled lasts =
    let back : grown ≡ graph = settled.1 graph (k, ks) pushed in
    let fault_is = settled.0 in
    rw (fault_is, back) (record {
      keys = record { refused = tt; checked = refused e _ [] (leaf_check-fresh graph k absent); same = refl };
      entries = λ sound calm. stored-same old.file new.file graph (same_files old new (blob_path k.digest) drafted e put sound.is_honest calm);
      sound = λ sound calm. IsSound-same old.is_honest new.is_honest old.file new.file graph put.device.honest.0 (same_files old new (blob_path k.digest) drafted e put sound.is_honest calm) sound;
      failures = put.device.failures;
      device = fails old new (blob_path k.digest) drafted e put;
      calm = raises old new (blob_path k.digest) drafted e put;
      halted = λ is_halted. absurd (never_halted e is_halted);
      running = λ is_halted. absurd is_halted;
      stays = λ is_halted. is_halted;
      tags = refl;
      name = refl;
      lasts = lasts;
    })
