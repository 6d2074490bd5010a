-- The files of a directory in memory, and those that are directly in a folder.
use Rattle.std.proofs.Common.{◌≡◌, ◌≢◌, append_assoc, ℕ, zero, suc, ◌⊎◌, inl, inr, true, List, [], ◌∷◌, ◌++◌, map, codes, length, Some, String, Global, refl, sym, ap, subst, ◌∙◌, arith}
use Rattle.std.specs.Prelude.{◌↔◌, ◌==◌, Contains, string_bytes}
use Rattle.std.specs.BTreeMap.{BTreeMap}
use Rattle.std.specs.Cmp.Lexicographic.{slice_cmp}
use Rattle.std.specs.List.{All, list_any}
use Rattle.std.specs.Ordering.{nat_cmp, is_eq}
use Rattle.std.specs.Str.Pattern.{FindsTextPrefix, StripsPrefix}
use Rattle.std.proofs.lemmas.Bool.{cases_Bool}
use Rattle.std.proofs.lemmas.Bool.Decides.{Decides-eqb}
use Rattle.std.proofs.lemmas.List.{append_cancel_left}
use Rattle.std.proofs.lemmas.List.Elements.{All-contains, Contains-append_cases, Contains-append_left, Contains-append_right, Contains-push}
use Rattle.std.proofs.lemmas.Map.Entries.{place_from_lookup}
use Rattle.std.proofs.lemmas.Map.Text.{is_eq-slice_cmp}
use Rattle.std.proofs.lemmas.Option.{slice_get_within, get_or_from_slice_get}
use Rattle.std.proofs.lemmas.Slice.Eq.{bytes_eq-Decides}
use Rattle.oci_dir.specs.Memory.{files_of}
use Rattle.oci_dir.specs.Prunable.{path_in, IsName, ListsFiles, ListsFolder}

-- ---- a slash in a text
pub slash-found : (text : List ℕ) → list_any (λ (c : ℕ). c == 47) text ≡ true → Contains text 47
slash-found [] h = cc h
slash-found (c ∷ text) h =
    elim (cases_Bool (c == 47)) [
      | inl same ↦ let is : c ≡ 47 = (Decides-eqb c 47).0 same in subst (λ (d : ℕ). Contains (d ∷ text) 47) (sym is) (Contains-append_left (47 ∷ []) text 47 (Contains-push [] 47))
      | inr apart ↦ Contains-append_right (c ∷ []) text 47 (slash-found text (rw apart at h))
    ]

only_one : {X : Type 0} (x y : X) → Contains (x ∷ []) y → x ≡ y
only_one x y (zero, lt, e) = e
only_one x y (suc i, lt, e) = absurd (omega (arith, lt))

pub slash-there : (text : List ℕ) → Contains text 47 → list_any (λ (c : ℕ). c == 47) text ≡ true
slash-there [] c = absurd (omega (arith, c.1))
slash-there (d ∷ text) c =
    elim (cases_Bool (d == 47)) [
      | inl same ↦ rw same refl
      | inr apart ↦
          elim (Contains-append_cases (d ∷ []) text 47 c) [
            | inl here ↦ cc (apart, (Decides-eqb d 47).1 (only_one d 47 here))
            | inr later ↦ rw apart (slash-there text later)
          ]
    ]

-- ---- the name in a path
parts : (folder name : List ℕ) → path_in folder name ≡ folder ++ (codes "/" ++ name)
parts folder name = append_assoc folder (codes "/") name

pub path-none : (path folder : List ℕ) → ((rest : List ℕ) → path ≢ folder ++ rest) → (name : List ℕ) → path ≡ path_in folder name → ⊥
path-none path folder lacks name is = lacks (codes "/" ++ name) (is ∙ parts folder name)

pub path-rest : (path folder rest name : List ℕ) → path ≡ folder ++ rest → path ≡ path_in folder name → rest ≡ codes "/" ++ name
path-rest path folder rest name split is = append_cancel_left folder rest (codes "/" ++ name) (sym split ∙ is ∙ parts folder name)

pub path-name : (path folder rest name : List ℕ) → path ≡ folder ++ rest → rest ≡ codes "/" ++ name → path ≡ path_in folder name
path-name path folder rest name split is = split ∙ ap (λ (r : List ℕ). folder ++ r) is ∙ sym (parts folder name)

pub name-same : (folder name other : List ℕ) → path_in folder name ≡ path_in folder other → name ≡ other
name-same folder name other same = append_cancel_left (codes "/") name other (path-rest (path_in folder name) folder (codes "/" ++ name) other (parts folder name) same)

-- what is left of a text when a prefix is taken off
pub stripped : (text prefix rest : List ℕ) → StripsPrefix (FindsTextPrefix prefix) text rest → text ≡ prefix ++ rest
stripped text prefix rest (n, found, is, long) = found.1 ∙ ap (λ (r : List ℕ). prefix ++ r) (sym is)

-- ---- one file
abbrev pub IsAt : List ℕ → List ℕ → ℕ → List ℕ → ℕ → Type 0
IsAt folder path long name size = IsName name × (path ≡ path_in folder name) × (size ≡ long)

pub noted-none : (found : List (List ℕ × ℕ)) (folder path : List ℕ) (long : ℕ) → ((name : List ℕ) → IsName name → path ≡ path_in folder name → ⊥)
    → (name : List ℕ) (size : ℕ) → Contains found (name, size) ↔ (Contains found (name, size) ⊎ IsAt folder path long name size)
noted-none found folder path long none name size = (λ c. inl c, λ either. elim either [ inl c ↦ c | inr at ↦ absurd (none name at.0 at.1) ])

pub noted-one : (found : List (List ℕ × ℕ)) (folder path known : List ℕ) (long : ℕ) → IsName known → path ≡ path_in folder known
    → (name : List ℕ) (size : ℕ) → Contains (found ++ (known, long) ∷ []) (name, size) ↔ (Contains found (name, size) ⊎ IsAt folder path long name size)
noted-one found folder path known long is_name is name size = (
  λ c. elim (Contains-append_cases found ((known, long) ∷ []) (name, size) c) [
    | inl earlier ↦ inl earlier
    | inr last ↦
        let both : (known, long) ≡ (name, size) = only_one {X = List ℕ × ℕ} (known, long) (name, size) last in
        let same : known ≡ name = ap (λ (p : List ℕ × ℕ). p.0) both in
        let size_is : long ≡ size = ap (λ (p : List ℕ × ℕ). p.1) both in
        inr (subst IsName same is_name, is ∙ ap (path_in folder) same, sym size_is)
  ],
  λ either. elim either [
    | inl earlier ↦ Contains-append_left found ((known, long) ∷ []) (name, size) earlier
    | inr at ↦
        let same : known ≡ name = name-same folder known name (sym is ∙ at.1) in
        Contains-append_right found ((known, long) ∷ []) (name, size)
        (subst (λ (p : List ℕ × ℕ). Contains ((known, long) ∷ []) p) (ap (λ (n : List ℕ). (n, long)) same ∙ ap (λ (n : ℕ). (name, n)) (sym at.2)) (Contains-push {X = List ℕ × ℕ} [] (known, long)))
  ],
)

-- ---- all files
abbrev Files : Type 0
Files = List (String Global × List ℕ)

abbrev texts : Files → List (List ℕ × List ℕ)
texts files = map (λ (f : String Global × List ℕ). (string_bytes f.0, f.1)) files

-- one of these is in the folder, with this name and this length
abbrev pub IsIn : List ℕ → Files → List ℕ → ℕ → Type 0
IsIn folder files name size = IsName name × (bytes : List ℕ) × Contains (texts files) (path_in folder name, bytes) × (length bytes ≡ size)

-- the ones that were found and those that are left are all
abbrev pub AreFound : List ℕ → Files → List (List ℕ × ℕ) → Files → Type 0
AreFound folder all found left = (name : List ℕ) (size : ℕ) → IsIn folder all name size ↔ (Contains found (name, size) ⊎ IsIn folder left name size)

pub AreFound-start : (folder : List ℕ) (all : Files) → AreFound folder all [] all
AreFound-start folder all name size = (λ is. inr is, λ either. elim either [ inl c ↦ absurd (omega (arith, c.1)) | inr is ↦ is ])

first_or_later : (folder : List ℕ) (f : String Global × List ℕ) (left : Files) (name : List ℕ) (size : ℕ) → IsIn folder (f ∷ left) name size → IsAt folder (string_bytes f.0) (length f.1) name size ⊎ IsIn folder left name size
first_or_later folder f left name size (is_name, bytes, there, long) =
    elim (Contains-append_cases ((string_bytes f.0, f.1) ∷ []) (texts left) (path_in folder name, bytes) there) [
      | inl here ↦
          let both : (string_bytes f.0, f.1) ≡ (path_in folder name, bytes) = only_one {X = List ℕ × List ℕ} (string_bytes f.0, f.1) (path_in folder name, bytes) here in
          inl (is_name, ap (λ (p : List ℕ × List ℕ). p.0) both, sym long ∙ ap (λ (p : List ℕ × List ℕ). length p.1) (sym both))
      | inr later ↦ inr (is_name, bytes, later, long)
    ]

is_first : (folder : List ℕ) (f : String Global × List ℕ) (left : Files) (name : List ℕ) (size : ℕ) → IsAt folder (string_bytes f.0) (length f.1) name size → IsIn folder (f ∷ left) name size
is_first folder f left name size (is_name, path, long) =
    (is_name, f.1, subst (λ (p : List ℕ). Contains ((string_bytes f.0, f.1) ∷ texts left) (p, f.1)) path (Contains-append_left ((string_bytes f.0, f.1) ∷ []) (texts left) (string_bytes f.0, f.1) (Contains-push {X = List ℕ × List ℕ} [] (string_bytes f.0, f.1))), sym long)

is_later : (folder : List ℕ) (f : String Global × List ℕ) (left : Files) (name : List ℕ) (size : ℕ) → IsIn folder left name size → IsIn folder (f ∷ left) name size
is_later folder f left name size (is_name, bytes, there, long) = (is_name, bytes, Contains-append_right ((string_bytes f.0, f.1) ∷ []) (texts left) (path_in folder name, bytes) there, long)

pub AreFound-next : (folder : List ℕ) (all : Files) (found more : List (List ℕ × ℕ)) (f : String Global × List ℕ) (left : Files) → AreFound folder all found (f ∷ left)
    → ((name : List ℕ) (size : ℕ) → Contains more (name, size) ↔ (Contains found (name, size) ⊎ IsAt folder (string_bytes f.0) (length f.1) name size)) → AreFound folder all more left
AreFound-next folder all found more f left before step name size = (
  λ is. elim ((before name size).0 is) [
    | inl c ↦ inl ((step name size).1 (inl c))
    | inr rest ↦ elim (first_or_later folder f left name size rest) [ inl at ↦ inl ((step name size).1 (inr at)) | inr later ↦ inr later ]
  ],
  λ either. elim either [
    | inl c ↦ elim ((step name size).0 c) [ inl earlier ↦ (before name size).1 (inl earlier) | inr at ↦ (before name size).1 (inr (is_first folder f left name size at)) ]
    | inr later ↦ (before name size).1 (inr (is_later folder f left name size later))
  ],
)

-- ---- the look-up of a file
in_texts : (files : Files) (p : List ℕ) (bytes : List ℕ) → Contains (texts files) (p, bytes) → (f : String Global × List ℕ) × Contains files f × (string_bytes f.0 ≡ p) × (f.1 ≡ bytes)
in_texts [] p bytes c = absurd (omega (arith, c.1))
in_texts (f ∷ files) p bytes c =
    elim (Contains-append_cases ((string_bytes f.0, f.1) ∷ []) (texts files) (p, bytes) c) [
      | inl here ↦
          let both : (string_bytes f.0, f.1) ≡ (p, bytes) = only_one {X = List ℕ × List ℕ} (string_bytes f.0, f.1) (p, bytes) here in
          (f, Contains-append_left (f ∷ []) files f (Contains-push [] f), ap (λ (q : List ℕ × List ℕ). q.0) both, ap (λ (q : List ℕ × List ℕ). q.1) both)
      | inr later ↦ let it = in_texts files p bytes later in (it.0, Contains-append_right (f ∷ []) files it.0 it.1, it.2, it.3)
    ]

to_texts : (files : Files) (f : String Global × List ℕ) → Contains files f → Contains (texts files) (string_bytes f.0, f.1)
to_texts [] f c = absurd (omega (arith, c.1))
to_texts (g ∷ files) f c =
    elim (Contains-append_cases (g ∷ []) files f c) [
      | inl here ↦
          let same : g ≡ f = only_one g f here in
          subst (λ (h : String Global × List ℕ). Contains (texts (g ∷ files)) (string_bytes h.0, h.1)) same (Contains-append_left ((string_bytes g.0, g.1) ∷ []) (texts files) (string_bytes g.0, g.1) (Contains-push {X = List ℕ × List ℕ} [] (string_bytes g.0, g.1)))
      | inr later ↦ Contains-append_right ((string_bytes g.0, g.1) ∷ []) (texts files) (string_bytes f.0, f.1) (to_texts files f later)
    ]

pub ListsFolder-found : (files : BTreeMap (String Global) (List ℕ)) (folder : List ℕ) (found : List (List ℕ × ℕ)) → All (λ (f : String Global × List ℕ). files_of files (string_bytes f.0) ≡ Some f.1) files.entries
    → AreFound folder files.entries found [] → ListsFolder (files_of files) folder found
ListsFolder-found files folder found get are name size = (
  λ c. (let is = (are name size).1 (inl c) in
      let f = in_texts files.entries (path_in folder name) is.1 is.2 in
      let at : files_of files (string_bytes f.0.0) ≡ Some f.0.1 = All-contains (λ (g : String Global × List ℕ). files_of files (string_bytes g.0) ≡ Some g.1) files.entries f.0 get f.1 in
      (is.0, (is.1, ap (files_of files) (sym f.2) ∙ at ∙ ap Some f.3, is.3))),
  λ (is_name, (bytes, at, long)). (let place = place_from_lookup (λ (k : String Global). is_eq (slice_cmp nat_cmp (path_in folder name) (string_bytes k))) files.entries bytes at in
      let k = place.1 in
      let c : Contains files.entries (k, bytes) = (place.0, slice_get_within files.entries place.0 (k, bytes) place.2, get_or_from_slice_get files.entries place.0 (k, bytes) (k, bytes) place.2) in
      let path : path_in folder name ≡ string_bytes k = (bytes_eq-Decides (path_in folder name) (string_bytes k)).0 (sym (is_eq-slice_cmp (path_in folder name) (string_bytes k)) ∙ place.3) in
      elim ((are name size).0 (is_name, bytes, subst (λ (p : List ℕ). Contains (texts files.entries) (p, bytes)) (sym path) (to_texts files.entries (k, bytes) c), long)) [
        | inl found_it ↦ found_it
        | inr left ↦ absurd (omega (arith, left.2.1))
      ]),
)

-- ---- all files with their lengths
abbrev pub lengths_of : Files → List (List ℕ × ℕ)
lengths_of files = map (λ (f : String Global × List ℕ). (string_bytes f.0, length f.1)) files

in_lengths : (files : Files) (p : List ℕ) (size : ℕ) → Contains (lengths_of files) (p, size) → (f : String Global × List ℕ) × Contains files f × (string_bytes f.0 ≡ p) × (length f.1 ≡ size)
in_lengths [] p size c = absurd (omega (arith, c.1))
in_lengths (f ∷ files) p size c =
    elim (Contains-append_cases ((string_bytes f.0, length f.1) ∷ []) (lengths_of files) (p, size) c) [
      | inl here ↦
          let both : (string_bytes f.0, length f.1) ≡ (p, size) = only_one {X = List ℕ × ℕ} (string_bytes f.0, length f.1) (p, size) here in
          (f, Contains-append_left (f ∷ []) files f (Contains-push [] f), ap (λ (q : List ℕ × ℕ). q.0) both, ap (λ (q : List ℕ × ℕ). q.1) both)
      | inr later ↦ let it = in_lengths files p size later in (it.0, Contains-append_right (f ∷ []) files it.0 it.1, it.2, it.3)
    ]

to_lengths : (files : Files) (f : String Global × List ℕ) → Contains files f → Contains (lengths_of files) (string_bytes f.0, length f.1)
to_lengths [] f c = absurd (omega (arith, c.1))
to_lengths (g ∷ files) f c =
    elim (Contains-append_cases (g ∷ []) files f c) [
      | inl here ↦
          let same : g ≡ f = only_one g f here in
          subst (λ (h : String Global × List ℕ). Contains (lengths_of (g ∷ files)) (string_bytes h.0, length h.1)) same
          (Contains-append_left ((string_bytes g.0, length g.1) ∷ []) (lengths_of files) (string_bytes g.0, length g.1) (Contains-push {X = List ℕ × ℕ} [] (string_bytes g.0, length g.1)))
      | inr later ↦ Contains-append_right ((string_bytes g.0, length g.1) ∷ []) (lengths_of files) (string_bytes f.0, length f.1) (to_lengths files f later)
    ]

pub ListsFiles-all : (files : BTreeMap (String Global) (List ℕ)) (found : List (List ℕ × ℕ)) → All (λ (f : String Global × List ℕ). files_of files (string_bytes f.0) ≡ Some f.1) files.entries
    → found ≡ lengths_of files.entries → ListsFiles (files_of files) found
ListsFiles-all files found get are path size = (
  λ c. (let f = in_lengths files.entries path size (subst (λ (all : List (List ℕ × ℕ)). Contains all (path, size)) are c) in
      let at : files_of files (string_bytes f.0.0) ≡ Some f.0.1 = All-contains (λ (g : String Global × List ℕ). files_of files (string_bytes g.0) ≡ Some g.1) files.entries f.0 get f.1 in
      (f.0.1, ap (files_of files) (sym f.2) ∙ at, f.3)),
  λ (bytes, at, long). (let place = place_from_lookup (λ (k : String Global). is_eq (slice_cmp nat_cmp path (string_bytes k))) files.entries bytes at in
      let k = place.1 in
      let c : Contains files.entries (k, bytes) = (place.0, slice_get_within files.entries place.0 (k, bytes) place.2, get_or_from_slice_get files.entries place.0 (k, bytes) (k, bytes) place.2) in
      let same : path ≡ string_bytes k = (bytes_eq-Decides path (string_bytes k)).0 (sym (is_eq-slice_cmp path (string_bytes k)) ∙ place.3) in
      subst (λ (all : List (List ℕ × ℕ)). Contains all (path, size)) (sym are)
      (subst (λ (p : List ℕ). Contains (lengths_of files.entries) (p, size)) (sym same)
      (subst (λ (n : ℕ). Contains (lengths_of files.entries) (string_bytes k, n)) long (to_lengths files.entries (k, bytes) c)))),
)
