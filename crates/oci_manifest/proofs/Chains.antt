-- What a chain of results says of its parts.
use Rattle.std.proofs.Common.{◌≡◌, ◌⊎◌, inl, inr, Option, Some, None, Result, Ok, Err, refl, sym, ◌∙◌}
use Rattle.std.specs.Prelude.{option_and_then}
use Rattle.oci_manifest.specs.Fault.{Fault}
use Rattle.oci_manifest.specs.Reading.{or_fault, ◌>>=◌}

pub some_bind : {A B : Type 0} (o : Option A) (f : A → Option B) (y : B) → option_and_then f o ≡ Some y → (x : A) × (o ≡ Some x) × (f x ≡ Some y)
some_bind (Some x) f y h = (x, refl, h)
some_bind None f y h = cc h

pub bind_ok : {A B : Type 0} (r : Result A Fault) (f : A → Result B Fault) (y : B) → (r >>= f) ≡ Ok y → (x : A) × (r ≡ Ok x) × (f x ≡ Ok y)
bind_ok (Ok x) f y h = (x, refl, h)
bind_ok (Err e) f y h = cc h

pub bind_err : {A B : Type 0} (r : Result A Fault) (f : A → Result B Fault) (e : Fault) → (r >>= f) ≡ Err e → (r ≡ Err e) ⊎ ((x : A) × (r ≡ Ok x) × (f x ≡ Err e))
bind_err (Ok x) f e h = inr (x, refl, h)
bind_err (Err d) f e h = inl (cc h)

pub or_ok : {A : Type 0} (e : Fault) (o : Option A) (x : A) → or_fault e o ≡ Ok x → o ≡ Some x
or_ok e (Some y) x h = cc h
or_ok e None x h = cc h

pub or_err : {A : Type 0} (e f : Fault) (o : Option A) → or_fault e o ≡ Err f → (o ≡ None) × (f ≡ e)
or_err e f (Some y) h = cc h
or_err e f None h = (refl, cc h)

pub apart : {A : Type 0} (o : Option A) (x : A) → o ≡ None → o ≡ Some x → ⊥
apart o x a b = cc (sym a ∙ b)

-- an option that is nothing, or something
pub some_or_none : {A : Type 0} (o : Option A) → (o ≡ None) ⊎ ((x : A) × (o ≡ Some x))
some_or_none None = inl refl
some_or_none (Some x) = inr (x, refl)
