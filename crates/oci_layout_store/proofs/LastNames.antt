-- The place of the last entry of each name.
use Rattle.std.proofs.Common.{◌≡◌, ℕ, suc, ◌+◌, ◌<◌, ◌≤◌, Bool, true, false, cond, List, [], ◌∷◌, ◌++◌, map, length, take, get_or, slice_get, option_map, Option, Some, None, String, Global, string_bytes, string_cmp, refl, sym, ap, ◌∙◌, arith}
use Rattle.std.specs.Prelude.{option_and_then}
use Rattle.std.specs.BTreeMap.{BTreeMap, Updates, get, is_at}
use Rattle.std.specs.Map.{lookup}
use Rattle.std.specs.Str.{bytes_eq}
use Rattle.std.proofs.lemmas.List.{length-map, length-take-le, map-append, take_more}
use Rattle.std.proofs.lemmas.Map.Text.{is_eq-slice_cmp}
use Rattle.std.proofs.lemmas.Option.{none-some, same_Some, slice_get-get_or, slice_get-map}
use Rattle.std.proofs.lemmas.Slice.Eq.{bytes_eq-Decides}
use Rattle.oci_layout_store.specs.Entries.{IndexEntry, entry_of, text_of}
use Rattle.oci_layout_store.specs.Saved.{HasLastPlaces, is_name, last_entry, last_place, later_place}
use Rattle.oci_layout_store.specs.declared.index.IndexEntry.{IndexEntry as CodeEntry}

pub later_place-cond : (b here : Bool) (n : ℕ) (o : Option ℕ) → later_place (cond b (Some n) o) here ≡ cond b (Some (suc n)) (later_place o here)
later_place-cond true here n o = refl
later_place-cond false here n o = refl

pub later_place-none : (b : Bool) → later_place None b ≡ cond b (Some 0) None
later_place-none true = refl
later_place-none false = refl

-- one entry more
last_place-more : (name : List ℕ) (es : List IndexEntry) (e : IndexEntry) → last_place name (es ++ e ∷ []) ≡ cond (is_name name e.name) (Some (length es)) (last_place name es)
last_place-more name [] e = later_place-none (is_name name e.name)
last_place-more name (d ∷ es) e =
    ap (λ (o : Option ℕ). later_place o (is_name name d.name)) (last_place-more name es e)
    ∙ later_place-cond (is_name name e.name) (is_name name d.name) (length es) (last_place name es)

-- a last place is one of the list
later_place-within : (o : Option ℕ) (here : Bool) (i n : ℕ) → ((j : ℕ) → o ≡ Some j → j < n) → later_place o here ≡ Some i → i < suc n
later_place-within (Some j) here i n within h =
    let l : j < n = within j refl in
    let e : suc j ≡ i = same_Some (suc j) i h in
    omega arith
later_place-within None true i n within h =
    let e : 0 ≡ i = same_Some 0 i h in
    omega arith
later_place-within None false i n within h = absurd (none-some i h)

pub last_place-within : (name : List ℕ) (es : List IndexEntry) (i : ℕ) → last_place name es ≡ Some i → i < length es
last_place-within name [] i h = absurd (none-some i h)
last_place-within name (e ∷ es) i h = later_place-within (last_place name es) (is_name name e.name) i (length es) (last_place-within name es) h

-- the entries of the code, with the next one
pub entries-more : (es : List CodeEntry) (i : ℕ) (e : CodeEntry) → i < length es → e ≡ get_or es i e → map entry_of (take (i + 1) es) ≡ map entry_of (take i es) ++ entry_of e ∷ []
entries-more es i e lt is =
    ap (map entry_of) (take_more es i e lt ∙ ap (λ (x : CodeEntry). take i es ++ x ∷ []) (sym is)) ∙ map-append entry_of (take i es) (e ∷ [])

pub length-entries : (es : List CodeEntry) (i : ℕ) → i < length es → length (map entry_of (take i es)) ≡ i
length-entries es i lt = length-map (take i es) entry_of ∙ length-take-le i es (omega arith)

-- a map of no entries, and one with the place of one entry more
pub HasLastPlaces-nil : (places : BTreeMap (String Global) ℕ) → places.entries ≡ [] → HasLastPlaces places []
HasLastPlaces-nil places none name = ap (lookup (is_at (string_cmp name))) none

pub HasLastPlaces-more : (old new : BTreeMap (String Global) ℕ) (es : List CodeEntry) (i : ℕ) (e : CodeEntry) → i < length es → e ≡ get_or es i e → HasLastPlaces old (map entry_of (take i es))
    → ((other : String Global) → get string_cmp new other ≡ cond (is_name (string_bytes other) (text_of e.name)) (Some i) (get string_cmp old other)) → HasLastPlaces new (map entry_of (take (i + 1) es))
HasLastPlaces-more old new es i e lt is before set other =
    let name = string_bytes other in
    let here = is_name name (text_of e.name) in
    let first = map entry_of (take i es) in
    set other ∙ ap (cond here (Some i)) (before other)
    ∙ ap (λ (n : ℕ). cond here (Some n) (last_place name first)) (sym (length-entries es i lt))
    ∙ sym (last_place-more name first (entry_of e))
    ∙ ap (last_place name) (sym (entries-more es i e lt is))

-- a map in which a name was set
bytes_eq-swap : (xs ys : List ℕ) (a b : Bool) → bytes_eq xs ys ≡ a → bytes_eq ys xs ≡ b → a ≡ b
bytes_eq-swap xs ys true b h g = sym ((bytes_eq-Decides ys xs).1 (sym ((bytes_eq-Decides xs ys).0 h))) ∙ g
bytes_eq-swap xs ys false true h g = sym h ∙ (bytes_eq-Decides xs ys).1 (sym ((bytes_eq-Decides ys xs).0 g))
bytes_eq-swap xs ys false false h g = refl

pub set_name : (old new : BTreeMap (String Global) ℕ) (key : String Global) (name : Option (String Global)) (place : ℕ) → Updates string_cmp old new key (Some place) → text_of name ≡ Some (string_bytes key)
    → (other : String Global) → get string_cmp new other ≡ cond (is_name (string_bytes other) (text_of name)) (Some place) (get string_cmp old other)
set_name old new key name place updates is other =
    let turned = bytes_eq-swap (string_bytes key) (string_bytes other) _ _ refl refl in
    updates.0 other
    ∙ ap (λ (b : Bool). cond b (Some place) (get string_cmp old other)) (is_eq-slice_cmp (string_bytes key) (string_bytes other) ∙ turned)
    ∙ ap (λ (n : Option (List ℕ)). cond (is_name (string_bytes other) n) (Some place) (get string_cmp old other)) (sym is)

-- the last entry, where its place is known
pub last_entry-at : (name : List ℕ) (es : List CodeEntry) (place : ℕ) (e : CodeEntry) → last_place name (map entry_of es) ≡ Some place → place < length es → e ≡ get_or es place e
    → Some (entry_of e) ≡ last_entry name (map entry_of es)
last_entry-at name es place e h lt is =
    sym (
    ap (option_and_then (slice_get (map entry_of es))) h ∙ slice_get-map entry_of es place
    ∙ ap (option_map entry_of) (slice_get-get_or es place e lt ∙ ap Some (sym is))
    )

pub last_place-there : (name : List ℕ) (es : List CodeEntry) (place : ℕ) → last_place name (map entry_of es) ≡ Some place → length es ≤ place → ⊥
last_place-there name es place h past = omega (arith, last_place-within name (map entry_of es) place h, length-map es entry_of)
