-- What `cat` writes, and why it is refused.
use Rattle.std.proofs.Common.{◌≡◌, ℕ, ◌-◌, Bool, true, false, inl, inr, List, [], ◌++◌, Option, None, Some, Result, Ok, Err, refl, sym, ap, subst, ◌∙◌, append_assoc, append-nil}
use Rattle.std.specs.Prelude.{IfErr, IsSome, OnOk}
use Rattle.std.specs.Io.KnownBytes.{Appends, Keeps}
use Rattle.std.specs.Option.{unwrap_or}
use Rattle.oci_layout_store.specs.Blobs.{blob_at, blob_path, IsFetch, IsNotOf}
use Rattle.oci_dir.specs.Device.{Device}
use Rattle.oci_layout_store.proofs.Stored.{has_key-stored}
use Rattle.oci_manifest.specs.Descriptor.{Descriptor, Matches}
use Rattle.oci_store.specs.Graph.{Node}
use Rattle.oci_store.specs.declared.fault.FetchFault.{FetchFault}
use Rattle.oci_store.specs.declared.fault.FetchFault.TheVariants as fetch
use Rattle.oci_verify.specs.Intact.{is_match, is_matching, HasFile}
use Rattle.oci_verify.proofs.Intact.{Decides-is_match}
use Rattle.oci_program.specs.declared.fault.ProgramFault.{ProgramFault}
use Rattle.oci_query_commands.specs.Written.{IsBlobFault, IsOutputFault, IsWriteFault}

-- ---- bytes that are appended

pub Keeps-same : (known : Option (List ℕ)) → Keeps known known
Keeps-same None = tt
Keeps-same (Some xs) = refl

pub Appends-none : (known : Option (List ℕ)) → Appends known known []
Appends-none None = tt
Appends-none (Some xs) = sym (append-nil xs)

pub Appends-both : (old mid new : Option (List ℕ)) (xs ys : List ℕ) → Appends old mid xs → Appends mid new ys → Appends old new (xs ++ ys)
Appends-both None mid new xs ys first second = tt
Appends-both (Some a) None new xs ys first second = absurd first
Appends-both (Some a) (Some b) None xs ys first second = absurd second
Appends-both (Some a) (Some b) (Some c) xs ys first second = second ∙ ap (λ (l : List ℕ). l ++ ys) first ∙ append_assoc a xs ys

-- ---- refusals

-- a file that a check found wrong does not match its key
pub IsNotOf-checked : (dir : Device) (k : Descriptor) → (HasFile dir k → is_matching dir.file k ≡ false) → dir.is_honest → IsNotOf k (dir.file (blob_path k.digest))
IsNotOf-checked dir k wrong honest bytes is matching =
    let there : IsSome (dir.file (blob_path k.digest)) = subst IsSome (sym is) refl in
    let same : blob_at dir.file k.digest ≡ bytes = ap (λ (o : Option (List ℕ)). unwrap_or o []) is in
    let right : is_match k (blob_at dir.file k.digest) ≡ true = (Decides-is_match k (blob_at dir.file k.digest)).1 (subst (Matches k) (sym same) matching) in
    cc (right, wrong (honest, there))

-- a file that is not there does not match its key
pub IsNotOf-none : (k : Descriptor) (file : Option (List ℕ)) → file ≡ None → IsNotOf k file
IsNotOf-none k file none bytes is matching = cc (sym none ∙ is)

-- why a read of a key's file failed; `wrong` states what is wrong with a corrupt file
pub IsBlobFault-read : (dir : Device) (graph : List Node) (k : Descriptor) (wrong : Type 0) (e : FetchFault) → (wrong → IsNotOf k (dir.file (blob_path k.digest))) → IsFetch dir graph k wrong (Err e) → IsBlobFault dir graph k e
IsBlobFault-read dir graph k wrong fetch.NotFound not_of is = sym (has_key-stored dir.file graph k) ∙ is.not_found.0 refl
IsBlobFault-read dir graph k wrong fetch.Corrupt not_of is = λ honest. not_of (is.corrupt refl honest)
IsBlobFault-read dir graph k wrong fetch.Device not_of is = is.device refl
IsBlobFault-read dir graph k wrong fetch.Memory not_of is = tt

-- a fault of the output
pub IsWriteFault-output : (dir : Device) (graph : List Node) (k : Descriptor) (e : ProgramFault) → IsOutputFault e → IsWriteFault dir graph k e
IsWriteFault-output dir graph k e (inl is) = subst (IsWriteFault dir graph k) (sym is) tt
IsWriteFault-output dir graph k e (inr is) = subst (IsWriteFault dir graph k) (sym is) tt

-- what holds of each fault
pub IfErr-all : {T E : Type 0} (P : E → Type 0) (r : Result T E) → ((e : E) → P e) → IfErr r P
IfErr-all P (Ok x) all = tt
IfErr-all P (Err e) all = all e

-- what is said of another command
pub OnOk-other : {T E : Type 0} (P : Type 0) (r : Result T E) (b : Bool) → b ≡ false → OnOk r (b ≡ true → P)
OnOk-other P (Ok x) b other = λ is. cc (sym other ∙ is)
OnOk-other P (Err e) b other = tt
