-- Extended copies: the key is one of the roots, and a copy from the roots is refused as a copy is.
use Rattle.std.proofs.Common.{◌≡◌, ℕ, zero, true, List, Result, Ok, Err, inl, inr, refl, arith}
use Rattle.std.specs.Prelude.{Contains, IfOk, OnOk}
use Rattle.std.proofs.lemmas.List.Elements.{All-contains}
use Rattle.oci_manifest.specs.Descriptor.{Descriptor}
use Rattle.oci_store.specs.Graph.{Node}
use Rattle.oci_store.specs.Keyed.{has_key, HasAll}
use Rattle.oci_store.specs.State.{State}
use Rattle.oci_plan.specs.Up.{IsUp}
use Rattle.oci_copy.specs.Cause.{RefusedAt, RefusedByWorkers}
use Rattle.oci_copy.specs.Extended.{AreRootsOf, AreRootsOfReference}
use Rattle.oci_copy.specs.Tagged.{ResolvesIn}
use Rattle.oci_copy.specs.declared.fault.CopyFault.{CopyFault}

-- the key is one of the roots
key_is_up : {graph : List Node} {k : Descriptor} {depth : ℕ} {roots : List Descriptor} → IsUp graph k depth roots → Contains roots k
key_is_up {k = k} up = (up.each k).1 (zero, λ limited. omega arith, refl)

pub key_held : {graph : List Node} {k : Descriptor} {depth : ℕ} {roots : List Descriptor} (now : List Node) → IsUp graph k depth roots → HasAll now roots → has_key now k ≡ true
key_held {k = k} {roots = roots} now up all = All-contains (λ d. has_key now d ≡ true) roots k all (key_is_up up)

-- what follows from a copy, whatever its report is
pub on_ok_from : {X : Type 0} (answer : Result X CopyFault) (copy : X → Type 0) (holds : Type 0) → ((x : X) → copy x → holds) → IfOk answer copy → OnOk answer holds
on_ok_from (Ok x) copy holds from is = from x is
on_ok_from (Err e) copy holds from is = tt

-- the roots of a key that a reference resolves to
pub roots_of_reference : (source : State) (name : List ℕ) (k : Descriptor) (depth : ℕ) (roots : List Descriptor) → AreRootsOf source k depth roots → ResolvesIn source name k → AreRootsOfReference source name depth roots
roots_of_reference source name k depth roots (inl none) found = inl none
roots_of_reference source name k depth roots (inr up) found = inr (k, found, up)

-- a copy by workers from one of several is refused at one of them
pub refused_at : {X : Type 0} (these : X → Type 0) (cause : X → CopyFault → Type 0) (workers : ℕ) (x : X) (e : CopyFault) → these x → RefusedByWorkers workers (cause x) e
    → RefusedByWorkers workers (RefusedAt these cause) e
refused_at these cause workers x e there (inl many) = inl many
refused_at these cause workers x e there (inr it) = inr (it.0, inr (x, there, it.1))
