-- Which drafts went, by their flags.
use Rattle.std.proofs.Common.{◌≡◌, ℕ, zero, suc, ◌+◌, ◌<◌, Bool, true, false, cond, inl, inr, List, [], ◌∷◌, ◌++◌, length, take, set, get_or, None, Option, Some, is_some, String, Global, string_bytes, refl, sym, ap, subst, ◌∙◌, arith}
use Rattle.std.specs.Prelude.{IsSome}
use Rattle.std.specs.Str.{bytes_eq}
use Rattle.std.proofs.lemmas.Bool.{cases_Bool}
use Rattle.std.proofs.lemmas.List.{append-nil, length-map, length-take-le}
use Rattle.std.proofs.lemmas.List.Elements.{Contains-push_cases}
use Rattle.std.proofs.lemmas.Slice.Eq.{bytes_eq-Decides}
use Rattle.oci_dir.specs.Device.{File, Same}
use Rattle.oci_dir.specs.Prunable.{by_name, Removes}
use Rattle.oci_prune.specs.Pruned.{flagged, IsDraftIn, RemovesDrafts, RemovesIf}
use Rattle.oci_prune.proofs.Elements.{no_element}
use Rattle.oci_prune.proofs.Sparing.{by_name-next, draft_here, draft_later, Drafts}

abbrev Draft : Type 0
Draft = List ℕ × ℕ

-- one element and its flag more
flagged-next : {X : Type 0} (xs : List X) (flags : List Bool) (i : ℕ) (x : X) (flag : Bool) → length xs ≡ i → i < length flags → flagged (xs ++ x ∷ []) (set flags i flag) ≡ flagged xs flags ++ cond flag (x ∷ []) []
flagged-next [] [] i x flag same lt = absurd (omega (arith, lt))
flagged-next [] (b ∷ flags) zero x flag same lt = refl
flagged-next [] (b ∷ flags) (suc i) x flag same lt = cc same
flagged-next (y ∷ xs) flags zero x flag same lt = cc same
flagged-next (y ∷ xs) [] (suc i) x flag same lt = absurd (omega (arith, lt))
flagged-next {X} (y ∷ xs) (b ∷ flags) (suc i) x flag same lt =
    let rest = flagged-next xs flags i x flag (cc same) (omega (arith, lt)) in
    let last = cond flag (x ∷ []) [] in
    let more = flagged (xs ++ x ∷ []) (set flags i flag) in
    elim b as (λ (h : Bool). cond h (y ∷ more) more ≡ cond h (y ∷ flagged xs flags) (flagged xs flags) ++ last) [
      | true ↦ ap (λ (zs : List X). y ∷ zs) rest
      | false ↦ rest
    ]

-- nothing went yet
pub removes_none : (file : File) → RemovesDrafts file file []
removes_none file = record { gone = λ path h. absurd (no_element h.0 h.1); other = λ path free. refl }

-- what was removed stays so where no draft changes
pub removes_still : (a b c : File) (drafts : List Draft) → RemovesDrafts a b drafts → Same b c → RemovesDrafts a c drafts
removes_still a b c drafts first same = record {
  gone = λ path h. (let was = first.gone path h in (was.0, same path ∙ was.1));
  other = λ path free. same path ∙ first.other path free;
}

pub removes_later : (a b c : File) (drafts : List Draft) → Same a b → RemovesDrafts b c drafts → RemovesDrafts a c drafts
removes_later a b c drafts same second = record {
  gone = λ path h. (let was = second.gone path h in (ap is_some (sym (same path)) ∙ was.0, was.1));
  other = λ path free. second.other path free ∙ same path;
}

-- a draft was removed if there was one
pub removes_if : (old new : File) (path : List ℕ) (found : Bool) → found ≡ is_some (old path) → Removes old new path → RemovesIf found old new path
removes_if old new path true is removes = (sym is, removes)
removes_if old new path false is removes = λ q. removes q ∙ at q
  where
    none : (o : Option (List ℕ)) → false ≡ is_some o → o ≡ None
    none None e = refl
    none (Some bytes) e = cc e

    at : (q : List ℕ) → cond (bytes_eq path q) None (old q) ≡ old q
    at q = elim (cases_Bool (bytes_eq path q)) [
      | inl same ↦ ap (λ (b : Bool). cond b None (old q)) same ∙ sym (none (old path) is) ∙ ap old ((bytes_eq-Decides path q).0 same)
      | inr apart ↦ ap (λ (b : Bool). cond b None (old q)) apart
    ]

-- what is gone stays gone
pub gone_later : (flag : Bool) (old new : File) (path q : List ℕ) → RemovesIf flag old new path → old q ≡ None → new q ≡ None
gone_later false old new path q removes none = removes q ∙ none
gone_later true old new path q removes none =
    elim (cases_Bool (bytes_eq path q)) [
      | inl same ↦ removes.1 q ∙ ap (λ (b : Bool). cond b None (old q)) same
      | inr apart ↦ removes.1 q ∙ ap (λ (b : Bool). cond b None (old q)) apart ∙ none
    ]

-- drafts went, and then one more, if its flag is true
removes_more : (a b c : File) (went : List Draft) (d : Draft) (flag : Bool) → RemovesDrafts a b went → RemovesIf flag b c d.0 → RemovesDrafts a c (went ++ cond flag (d ∷ []) [])
removes_more a b c went d false first same = subst (λ (ds : List Draft). RemovesDrafts a c ds) (sym (append-nil went)) (removes_still a b c went first same)
removes_more a b c went d true first second = record {
  gone = λ path h. gone_at path h;
  other = λ path free. second.1 path ∙ ap (λ (f : Bool). cond f None (b path)) (apart path free) ∙ first.other path (λ h. free (draft_later went d path h));
}
  where
    apart : (path : List ℕ) → (IsDraftIn (went ++ d ∷ []) path → ⊥) → bytes_eq d.0 path ≡ false
    apart path free = elim (cases_Bool (bytes_eq d.0 path)) [
      | inl same ↦ absurd (free (draft_here went d path ((bytes_eq-Decides d.0 path).0 same)))
      | inr other ↦ other
    ]

    here : (path : List ℕ) → d.0 ≡ path → IsSome (a path) × (c path ≡ None)
    here path is = subst (λ (q : List ℕ). IsSome (a q) × (c q ≡ None)) is (
      ap is_some (sym (first.other d.0 (λ h. cc (sym second.0 ∙ ap is_some ((first.gone d.0 h).1))))) ∙ second.0,
      second.1 d.0 ∙ ap (λ (f : Bool). cond f None (b d.0)) ((bytes_eq-Decides d.0 d.0).1 refl),
    )

    gone_at : (path : List ℕ) → IsDraftIn (went ++ d ∷ []) path → IsSome (a path) × (c path ≡ None)
    gone_at path h = elim (Contains-push_cases went d h.0 h.1) [
      | inl earlier ↦
          let was = first.gone path (h.0, earlier, h.2) in
          (was.0, gone_later true b c d.0 path second was.1)
      | inr is ↦ here path (ap (λ (e : Draft). e.0) is ∙ h.2)
    ]

-- the drafts of one step more
pub removes_next : (a b c : File) (drafts : Drafts) (i : ℕ) (d : String Global × ℕ) (flags : List Bool) (flag : Bool) → i < length drafts → d ≡ get_or drafts i d → length flags ≡ length drafts → RemovesDrafts a b (flagged (by_name (take i drafts)) flags)
    → RemovesIf flag b c (string_bytes d.0) → RemovesDrafts a c (flagged (by_name (take (i + 1) drafts)) (set flags i flag))
removes_next a b c drafts i d flags flag lt is same first step =
    let named = by_name (take i drafts) in
    let it : Draft = (string_bytes d.0, d.1) in
    let count : length named ≡ i = length-map (take i drafts) (λ (f : String Global × ℕ). (string_bytes f.0, f.1)) ∙ length-take-le i drafts (omega (arith, lt)) in
    let next = ap (λ (ds : List Draft). flagged ds (set flags i flag)) (by_name-next drafts i d lt is) ∙ flagged-next named flags i it flag count (omega (arith, lt, same)) in
    subst (λ (ds : List Draft). RemovesDrafts a c ds) (sym next) (removes_more a b c (flagged named flags) it flag first step)
