-- What a prune without a fault has done.
use Rattle.std.proofs.Common.{◌≡◌, ◌∙◌, Option, Some, None, Result, Ok, Err, refl, sym}
use Rattle.std.specs.Prelude.{IfErr, IsOk}
use Rattle.oci_prune_fault.specs.declared.fault.PruneFault.{PruneFault}

-- where no fault is returned, the index is saved
pub is_saved : (saved : Result Unit PruneFault) (fault : Option PruneFault) → IfErr saved (λ e. fault ≡ Some e) → fault ≡ None → IsOk saved
is_saved (Ok u) fault is none = refl
is_saved (Err e) fault is none = cc (sym none ∙ is)
