-- What is done to bring one planned key.
use Rattle.std.proofs.Common.{◌≡◌, ◌⊎◌, ℕ, false, List, [], ◌∷◌, Ok, Err, Some, inl, inr, ap, sym, subst, ◌∙◌}
use Rattle.std.specs.Map.{keys_of}
use Rattle.oci_manifest.specs.Descriptor.{Descriptor}
use Rattle.oci_store.specs.Content.{IsChecked}
use Rattle.oci_store.specs.Graph.{Node, node_of}
use Rattle.oci_store.specs.Keyed.{value_at, has_key}
use Rattle.oci_store.specs.Parts.{IsLostPush}
use Rattle.oci_store.specs.Push.{IsPush}
use Rattle.oci_store.specs.State.{State}
use Rattle.oci_store.specs.declared.fault.PushFault.{PushFault}
use Rattle.oci_copy.specs.Brought.{CanBring, IsBrought}
use Rattle.oci_copy.specs.Cause.{HasFailed, IsStepCause}
use Rattle.oci_copy.specs.Fault.{of_push}
use Rattle.oci_copy.specs.declared.fault.CopyFault.{CopyFault}
use Rattle.oci_copy.specs.declared.fault.CopyFault.TheVariants as fault
use Rattle.oci_copy.proofs.Causes.{reported_as, turn_cause, HasFailed-raised}
use Rattle.oci_copy.proofs.Growth.{keeps_answered, keeps_lost}
use Rattle.oci_copy.proofs.Workers.{keys_of-append, step_from_lost}

-- content of the key is pushed that was checked, and is the source's where that is honest
module _ {X D : Type 0} {state : D → State} {shares : Type 0} {source old new : State} {k : Descriptor} {bytes : List ℕ} {listed : List Descriptor}
    (can : CanBring source old k) (checked : IsChecked k bytes listed) (own : source.is_honest → value_at source.entries k ≡ Some bytes) where
  pub brought : {place : ℕ} {done : X} → IsPush shares old new (k, bytes) (Ok place) → IsBrought state shares source old new k (Ok done)
  brought {place = place} did = record {
    pushed = ap keys_of did.keys.pushed ∙ keys_of-append old.nodes (node_of (k, bytes) ∷ []);
    refused = tt;
    cause = tt;
    running = λ halted. elim (did.running halted) [ inl was ↦ was | inr memory ↦ cc memory ];
    keeps = λ planned opening plan keeps. keeps_answered {listed = listed} _ did own plan can.fresh checked keeps;
  }

  pub refused : {e : PushFault} {reported : CopyFault} → IsPush shares old new (k, bytes) (Err e) → (reported ≡ fault.Memory) ⊎ (reported ≡ of_push k e) → IsBrought {X = X} state shares source old new k (Err reported)
  refused {e = e} {reported = reported} did tells = record {
    pushed = tt;
    refused = did.keys.refused;
    cause = turn_cause source old new k bytes listed can.fresh checked own can.ready did.keys.refused e reported did.keys.checked
        (λ same. HasFailed-raised old new (did.device (cc))) (λ same. did.halted (cc)) tells;
    running = tt;
    keeps = λ planned opening plan keeps. keeps_answered {listed = listed} _ did own plan can.fresh checked keeps;
  }

-- a draft of the key is pushed that is lost
pub refused_lost : {X D : Type 0} {state : D → State} {shares : Type 0} {source old new : State} {k : Descriptor} {e : PushFault} {reported : CopyFault} → CanBring source old k → IsLostPush old new k (Err e) → (reported ≡ fault.Memory) ⊎ (reported ≡ of_push k e)
    → IsBrought {X = X} state shares source old new k (Err reported)
refused_lost {source = source} {old = old} {new = new} {k = k} {e = e} {reported = reported} can did tells = record {
  pushed = tt;
  refused = did.keys.same;
  cause = (
    subst (λ (graph : List Node). has_key graph k ≡ false) (sym did.keys.same) can.fresh,
    inl (reported_as (IsStepCause (HasFailed old new) source old k) (of_push k e) reported tells (tt) (step_from_lost (HasFailed old new) source old old.nodes k can.fresh e did.keys.checked
        (λ same. HasFailed-raised old new (did.device (cc))) (λ same. did.halted (cc)))),
  );
  running = tt;
  keeps = λ planned opening plan keeps. keeps_lost did keeps;
}
