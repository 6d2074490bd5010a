-- Directories in memory: what settling, a removal and a crash leave.
use Rattle.std.proofs.Common.{◌≡◌, ℕ, true, false, ◌⊎◌, inl, inr, List, [], ◌∷◌, ◌++◌, cond, Option, Some, None, Result, Ok, Err, String, string_bytes, map, refl, sym, ap, subst, ◌∙◌}
use Rattle.std.specs.Prelude.{IsSome, MatchOption, IsSomeAnd}
use Rattle.std.specs.Result.{IsErrAnd}
use Rattle.std.specs.declared.alloc.Global.{Global}
use Rattle.std.specs.BTreeMap.{BTreeMap, IsClone, is_at}
use Rattle.std.specs.Cmp.Lexicographic.{slice_cmp}
use Rattle.std.specs.List.{All}
use Rattle.std.specs.Ordering.{is_eq, nat_cmp}
use Rattle.std.specs.Str.{bytes_eq}
use Rattle.std.proofs.lemmas.Bool.{cases_Bool}
use Rattle.std.proofs.lemmas.List.{map-append}
use Rattle.std.proofs.lemmas.List.Elements.{All-push, All-weaker}
use Rattle.std.proofs.lemmas.Map.Entries.{lookup_clone}
use Rattle.std.proofs.lemmas.Slice.Eq.{bytes_eq-Decides}
use Rattle.oci_dir.specs.Crash.{IsSettled, IsSettling, OnlySettles}
use Rattle.oci_dir.specs.Device.{Device, File}
use Rattle.oci_dir.specs.Memory.{files_of}
use Rattle.oci_dir.specs.declared.fault.DirFault.{DirFault}
use Rattle.oci_dir.specs.declared.fault.DirFault.TheVariants as dir

-- ---- one file is settled

abbrev MayBe : File → File → File → List ℕ → Option (List ℕ) → Type 0
MayBe files settled torn q x = (x ≡ files q) ⊎ (x ≡ settled q) ⊎ IsSome (torn q)

pub memory_settled : (files settled torn torn' : File) (path : List ℕ) → settled path ≡ files path → ((q : List ℕ) → torn' q ≡ cond (bytes_eq path q) None (torn q))
    → (x : Option (List ℕ)) → MayBe files settled torn' path x → x ≡ files path
memory_settled files settled torn torn' path same removes x is =
    let here : bytes_eq path path ≡ true = (bytes_eq-Decides path path).1 refl in
    let gone : torn' path ≡ None = rw here at (removes path) in
    elim is [
      | inl now ↦ now
      | inr rest ↦ elim rest [ inl was ↦ was ∙ same | inr anything ↦ absurd (cc (subst (λ (o : Option (List ℕ)). IsSome o) gone anything)) ]
    ]

pub memory_no_more : (files settled settled' torn torn' : File) (path : List ℕ) → settled' path ≡ files path → ((q : List ℕ) → bytes_eq path q ≡ false → settled' q ≡ settled q)
    → ((q : List ℕ) → torn' q ≡ cond (bytes_eq path q) None (torn q)) → (q : List ℕ) (x : Option (List ℕ)) → MayBe files settled' torn' q x → MayBe files settled torn q x
memory_no_more files settled settled' torn torn' path same other removes q x is =
    elim (cases_Bool (bytes_eq path q)) [
      | inl here ↦
          let e : path ≡ q = (bytes_eq-Decides path q).0 here in
          inl (subst (λ (p : List ℕ). MayBe files settled' torn' p x → x ≡ files p) e (memory_settled files settled' torn torn' path same removes x) is)
      | inr apart ↦ elim is [
        | inl now ↦ inl now
        | inr rest ↦ elim rest [
          | inl was ↦ inr (inl (was ∙ other q apart))
          | inr anything ↦ inr (inr (subst (λ (o : Option (List ℕ)). IsSome o) (rw apart at (removes q)) anything))
        ]
      ]
    ]

-- ---- many files are settled

pub settles-none : (dir : Device) → OnlySettles dir dir
settles-none dir = record { files = λ h q. refl; draft = λ h q. refl; no_more = λ h q x is. is; honest = (λ h. h, λ h. h); link = refl; reads = refl; failures = refl }

pub settles-both : (old mid new : Device) → OnlySettles old mid → OnlySettles mid new → OnlySettles old new
settles-both old mid new one two = record {
  files = λ h q. two.files (one.honest.0 h) q ∙ one.files h q;
  draft = λ h q. two.draft (one.honest.0 h) q ∙ one.draft h q;
  no_more = λ h q x is. one.no_more h q x (two.no_more (one.honest.0 h) q x is);
  honest = (λ h. two.honest.0 (one.honest.0 h), λ h. one.honest.1 (two.honest.1 h));
  link = two.link ∙ one.link;
  reads = two.reads ∙ one.reads;
  failures = two.failures ∙ one.failures;
}

settled-later : (old new : Device) (path : List ℕ) → OnlySettles old new → old.is_honest → IsSettled old path → IsSettled new path
settled-later old new path only honest settled = λ x is. settled x (only.no_more honest path x is) ∙ sym (only.files honest path)

-- the files at these paths are settled
abbrev pub TheseSettled : Device → List (String Global) → Type 0
TheseSettled dir paths = All (IsSettled dir) (map string_bytes paths)

pub settled-more : (old new : Device) (paths : List (String Global)) (path : String Global) → old.is_honest → OnlySettles old new → TheseSettled old paths → IsSettled new (string_bytes path)
    → TheseSettled new (paths ++ path ∷ [])
settled-more old new paths path honest only were is =
    subst (λ (qs : List (List ℕ)). All (IsSettled new) qs) (sym (map-append string_bytes paths (path ∷ [])))
    (All-push (IsSettled new) (map string_bytes paths) (string_bytes path)
    (All-weaker (IsSettled old) (IsSettled new) (λ q was. settled-later old new q only honest was) (map string_bytes paths) were) is)

-- some files were settled, and then memory ran out
pub settles-until : (old new : Device) (paths : List (List ℕ)) (answer : Result Unit DirFault) → OnlySettles old new → IsErrAnd answer (λ e. e ≡ dir.Memory) → IsSettling old new paths answer
settles-until old new paths (Ok done) only is = absurd is
settles-until old new paths (Err e) only is = record { only = only; settled = tt; failed = λ f. absurd (cc (f, is)) }

-- ---- a removal

pub memory_removed : (files files' settled torn : File) (path : List ℕ) → ((q : List ℕ) → files' q ≡ cond (bytes_eq path q) None (files q)) → (q : List ℕ) (x : Option (List ℕ))
    → MayBe files' settled torn q x → MayBe files settled torn q x ⊎ ((bytes_eq path q ≡ true) × (x ≡ None))
memory_removed files files' settled torn path removes q x is =
    elim is [
      | inr rest ↦ inl (inr rest)
      | inl now ↦ elim (cases_Bool (bytes_eq path q)) [
        | inl here ↦ inr (here, now ∙ (rw here at (removes q)))
        | inr apart ↦ inl (inl (now ∙ (rw apart at (removes q))))
      ]
    ]

-- ---- a crash

same_found : (x y : Option (List ℕ)) → MatchOption x (y ≡ None) (λ v. IsSomeAnd y (λ w. w ≡ v)) → y ≡ x
same_found None y e = e
same_found (Some v) None e = absurd e
same_found (Some v) (Some w) e = ap Some e

-- a copy of a map has the same files
pub copied-same : (m n : BTreeMap (String Global) (List ℕ)) → IsClone (λ s t. string_bytes t ≡ string_bytes s) (λ b c. c ≡ b) m n → (q : List ℕ) → files_of n q ≡ files_of m q
copied-same m n clone q =
    same_found (files_of m q) (files_of n q)
    (lookup_clone (λ (s t : String Global). string_bytes t ≡ string_bytes s) (λ (b c : List ℕ). c ≡ b) (is_at (λ (k : String Global). slice_cmp nat_cmp q (string_bytes k)))
    (λ s t e. ap (λ (bs : List ℕ). is_eq (slice_cmp nat_cmp q bs)) e) m.entries n.entries clone)
