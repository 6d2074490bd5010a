-- The first of several directories that has a whole file of a key.
use Rattle.std.proofs.Common.{◌≡◌, ℕ, zero, ◌+◌, ◌<◌, Bool, true, false, cond, List, [], ◌∷◌, ◌++◌, map, length, take, drop, get_or, Option, Some, None, option_map, inl, inr, refl, sym, ap, subst, ◌∙◌, append-nil, append_assoc, arith}
use Rattle.std.specs.Prelude.{flat_map, MatchOption}
use Rattle.std.specs.List.{All}
use Rattle.std.proofs.lemmas.Grind.{flat_map-append}
use Rattle.std.proofs.lemmas.Bool.{cases_Bool}
use Rattle.std.proofs.lemmas.List.{length-map, length-take-le, map-append, take-append-drop, take_more}
use Rattle.oci_dir.specs.Device.{File}
use Rattle.oci_layout_store.specs.Opened.{listed_in}
use Rattle.oci_manifest.specs.Descriptor.{Descriptor}
use Rattle.oci_repair.specs.Planned.{links_of, place_of}
use Rattle.oci_repair.specs.Whole.{has_whole, lists_in, place_in}
use Rattle.oci_repair.specs.declared.search.Found.{Found}

pub here_place : (file : File) (files : List File) (k : Descriptor) → has_whole file k ≡ true → place_in (file ∷ files) k ≡ Some 0
here_place file files k h = ap (λ (b : Bool). cond b (Some 0) (option_map (λ (n : ℕ). n + 1) (place_in files k))) h

pub here_lists : (file : File) (files : List File) (k : Descriptor) → has_whole file k ≡ true → lists_in (file ∷ files) k ≡ listed_in file k
here_lists file files k h = ap (λ (b : Bool). cond b (listed_in file k) (lists_in files k)) h

pub next_place : (file : File) (files : List File) (k : Descriptor) → has_whole file k ≡ false → place_in (file ∷ files) k ≡ option_map (λ (n : ℕ). n + 1) (place_in files k)
next_place file files k h = ap (λ (b : Bool). cond b (Some 0) (option_map (λ (n : ℕ). n + 1) (place_in files k))) h

pub next_lists : (file : File) (files : List File) (k : Descriptor) → has_whole file k ≡ false → lists_in (file ∷ files) k ≡ lists_in files k
next_lists file files k h = ap (λ (b : Bool). cond b (listed_in file k) (lists_in files k)) h

-- none of these directories has one
abbrev pub AreWithout : List File → Descriptor → Type 0
AreWithout files k = place_in files k ≡ None

none_mapped : (o : Option ℕ) → option_map (λ (n : ℕ). n + 1) o ≡ None → o ≡ None
none_mapped None h = refl
none_mapped (Some n) h = cc h

without_both : (file : File) (files : List File) (k : Descriptor) → AreWithout (file ∷ files) k → (has_whole file k ≡ false) × AreWithout files k
without_both file files k h = elim (cases_Bool (has_whole file k)) [
  | inl here ↦ cc (sym (here_place file files k here) ∙ h)
  | inr gone ↦ (gone, none_mapped (place_in files k) (sym (next_place file files k gone) ∙ h))
]

pub without_push : (files : List File) (file : File) (k : Descriptor) → AreWithout files k → has_whole file k ≡ false → AreWithout (files ++ file ∷ []) k
without_push [] file k h gone = next_place file [] k gone
without_push (first ∷ files) file k h gone =
    let both = without_both first files k h in
    next_place first (files ++ file ∷ []) k both.0 ∙ ap (option_map (λ (n : ℕ). n + 1)) (without_push files file k both.1 gone)

plus_suc : (n m : ℕ) → n + 1 + m ≡ n + (m + 1)
plus_suc n m = omega arith

-- the first one after some that have none
pub place_after : (before : List File) (file : File) (files : List File) (k : Descriptor) → AreWithout before k → has_whole file k ≡ true
    → (place_in (before ++ file ∷ files) k ≡ Some (length before)) × (lists_in (before ++ file ∷ files) k ≡ listed_in file k)
place_after [] file files k h here = (here_place file files k here, here_lists file files k here)
place_after (first ∷ before) file files k h here =
    let both = without_both first before k h in
    let rest = place_after before file files k both.1 here in
    let more : length before + 1 ≡ length (first ∷ before) = omega arith in (
      next_place first (before ++ file ∷ files) k both.0 ∙ ap (option_map (λ (n : ℕ). n + 1)) rest.0 ∙ ap Some more,
      next_lists first (before ++ file ∷ files) k both.0 ∙ rest.1,
    )

-- where none has one, nothing is listed
pub lists_nothing : (files : List File) (k : Descriptor) → AreWithout files k → lists_in files k ≡ []
lists_nothing [] k h = refl
lists_nothing (file ∷ files) k h =
    let both = without_both file files k h in
    next_lists file files k both.0 ∙ lists_nothing files k both.1

-- ---- the directories of a list of sources

module _ {S : Type 0} (file : S → File) (sources : List S) (i : ℕ) (s : S) (lt : i < length sources) (at : s ≡ get_or sources i s) where
  pub files_more : map file (take (i + 1) sources) ≡ map file (take i sources) ++ file s ∷ []
  files_more =
      ap (map file) (take_more sources i s lt ∙ ap (λ (x : S). take i sources ++ x ∷ []) (sym at)) ∙ map-append file (take i sources) (s ∷ [])

  files_split : map file sources ≡ map file (take i sources) ++ file s ∷ map file (drop (i + 1) sources)
  files_split =
      ap (map file) (sym (take-append-drop (i + 1) sources)) ∙ map-append file (take (i + 1) sources) (drop (i + 1) sources)
      ∙ ap (λ (fs : List File). fs ++ map file (drop (i + 1) sources)) files_more
      ∙ append_assoc (map file (take i sources)) (file s ∷ []) (map file (drop (i + 1) sources))

  count : length (map file (take i sources)) ≡ i
  count = length-map (take i sources) file ∙ length-take-le i sources (omega (arith, lt))

  -- the first source that has a whole file is the one at this place
  pub found_at : (k : Descriptor) → AreWithout (map file (take i sources)) k → has_whole (file s) k ≡ true
      → (option_map (λ (n : ℕ). n + 1) (place_in (map file sources) k) ≡ Some (i + 1)) × (lists_in (map file sources) k ≡ listed_in (file s) k)
  found_at k before here =
      let first = place_after (map file (take i sources)) (file s) (map file (drop (i + 1) sources)) k before here in (
        ap (λ (fs : List File). option_map (λ (n : ℕ). n + 1) (place_in fs k)) files_split ∙ ap (option_map (λ (n : ℕ). n + 1)) first.0 ∙ ap (λ (n : ℕ). Some (n + 1)) count,
        ap (λ (fs : List File). lists_in fs k) files_split ∙ first.1,
      )

  -- up to this place none has one
  pub without_at : (k : Descriptor) → AreWithout (map file (take i sources)) k → has_whole (file s) k ≡ false → AreWithout (map file (take (i + 1) sources)) k
  without_at k before gone = ap (λ (fs : List File). place_in fs k) files_more ∙ without_push (map file (take i sources)) (file s) k before gone

  -- what holds of each source
  pub all_at : (P : S → Type 0) → All P sources → P s
  all_at P are = subst P (sym at) (are i s lt)

-- ---- where a key was found

pub found_is : (files : List File) (k : Descriptor) (found : Option Found) → MatchOption found (place_in files k ≡ None) (λ (f : Found). (place_in files k ≡ Some f.place) × (f.links.items ≡ lists_in files k))
    → (place_of found ≡ place_in files k) × (links_of found ≡ lists_in files k)
found_is files k None h = (sym h, sym (lists_nothing files k h))
found_is files k (Some f) h = (sym h.0, h.1)

-- one key more
pub more_at : {X : Type 0} (f : Descriptor → List X) (keys after : List Descriptor) (i : ℕ) (k : Descriptor) {xs ys : List X} → take (i + 1) after ≡ take i keys ++ k ∷ [] → xs ≡ flat_map f (take i keys) → ys ≡ f k → xs ++ ys ≡ flat_map f (take (i + 1) after)
more_at f keys after i k {xs} {ys} taken are here =
    ap (λ zs. zs ++ ys) are ∙ ap (λ zs. flat_map f (take i keys) ++ zs) (here ∙ sym (append-nil (f k))) ∙ sym (flat_map-append f (take i keys) (k ∷ [])) ∙ ap (flat_map f) (sym taken)
