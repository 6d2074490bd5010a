-- The platforms that the elements of an index state, one element at a time.
use Rattle.std.proofs.Common.{◌≡◌, ℕ, ◌+◌, ◌<◌, ◌≤◌, true, false, codes, List, [], ◌∷◌, ◌++◌, map, length, drop, get_or, Option, Some, None, option_map, String, Global, string_bytes, refl, sym, ap, subst, ◌∙◌, arith, add-one, drop-cons}
use Rattle.std.proofs.Math.ListN.{drop_of_length-le}
use Rattle.std.proofs.lemmas.List.{map-append}
use Rattle.std.proofs.lemmas.Option.{same_Some}
use Rattle.std.specs.List.{list_any}
use Rattle.std.specs.Option.{option_or, unwrap_or}
use Rattle.std.specs.Prelude.{option_and_then}
use Rattle.std.specs.Str.{bytes_eq}
use Rattle.serde_json.specs.Data.{Data, null, boolean, number, string, array, object, Items, item, no_items, depth, items_depth}
use Rattle.serde_json.specs.Find.{get, as_array}
use Rattle.serde_json.specs.View.{view, items_view}
use Rattle.serde_json.specs.declared.value.Value.{Value}
use Rattle.serde_json.proofs.Nesting.{depth-read}
use Rattle.oci_manifest.specs.Descriptor.{Descriptor}
use Rattle.oci_manifest.specs.MediaTypes.{kind_of}
use Rattle.oci_manifest.specs.Reading.{reading}
use Rattle.oci_store.specs.Graph.{Node}
use Rattle.oci_store.specs.Keyed.{value_at}
use Rattle.oci_layout_store.specs.Blobs.{stored}
use Rattle.oci_dir.specs.Device.{File}
use Rattle.oci_layout_store.proofs.Members.{AtMost, get-depth}
use Rattle.oci_layout_store.proofs.Texts.{utf8_read}
use Rattle.oci_reference.specs.Platform.{first_for, is_index, key_for, listed_by, manifests_in, picked_of, platform_of, platforms_after, with_platform}
use Rattle.oci_reference.specs.declared.platform.Picked.{Picked}

-- the rest of the elements at a place in them
rest_at : (vs : List Value) (i : ℕ) (v : Value) → i < length vs → v ≡ get_or vs i v → items_view (drop i vs) ≡ item (view v) (items_view (drop (i + 1) vs))
rest_at vs i v lt is = rw add-one (ap items_view (drop-cons vs i v lt)) ∙ ap (λ (w : Value). item (view w) (items_view (drop (i + 1) vs))) (sym is)

rest_end : (vs : List Value) (i : ℕ) → length vs ≤ i → items_view (drop i vs) ≡ no_items
rest_end vs i le =
    let none : drop i vs ≡ [] = drop_of_length-le vs le in
    ap items_view none

-- ---- the platforms

pub platforms-step : (found : List (List ℕ)) (vs : List Value) (i : ℕ) (v : Value) → i < length vs → v ≡ get_or vs i v
    → platforms_after found (items_view (drop i vs)) ≡ platforms_after (with_platform found (platform_of (view v))) (items_view (drop (i + 1) vs))
platforms-step found vs i v lt is = ap (platforms_after found) (rest_at vs i v lt is)

pub platforms-end : (found : List (List ℕ)) (vs : List Value) (i : ℕ) → length vs ≤ i → platforms_after found (items_view (drop i vs)) ≡ found
platforms-end found vs i le = ap (platforms_after found) (rest_end vs i le)

-- ---- the first one

pub first-here : (platform : List ℕ) (vs : List Value) (i : ℕ) (v : Value) (k : Descriptor) → i < length vs → v ≡ get_or vs i v → Some k ≡ key_for platform (view v)
    → first_for platform (items_view (drop i vs)) ≡ Some (k, view v)
first-here platform vs i v k lt is here = ap (first_for platform) (rest_at vs i v lt is) ∙ rw (← here) refl

pub first-later : (platform : List ℕ) (vs : List Value) (i : ℕ) (v : Value) → i < length vs → v ≡ get_or vs i v → None ≡ key_for platform (view v)
    → first_for platform (items_view (drop i vs)) ≡ first_for platform (items_view (drop (i + 1) vs))
first-later platform vs i v lt is here = ap (first_for platform) (rest_at vs i v lt is) ∙ rw (← here) refl

pub first-end : (platform : List ℕ) (vs : List Value) (i : ℕ) → length vs ≤ i → first_for platform (items_view (drop i vs)) ≡ None
first-end platform vs i le = ap (first_for platform) (rest_end vs i le)

-- ---- texts

pub any_text : (text : List ℕ) (texts : List (String Global)) → list_any (λ (other : String Global). bytes_eq text (string_bytes other)) texts ≡ list_any (bytes_eq text) (map string_bytes texts)
any_text text [] = refl
any_text text (t ∷ texts) = rw (any_text text texts) refl

-- a platform that is not among those found so far is added
pub with_platform-new : (texts : List (String Global)) (t : String Global) → list_any (λ (other : String Global). bytes_eq (string_bytes t) (string_bytes other)) texts ≡ false
    → map string_bytes (texts ++ t ∷ []) ≡ with_platform (map string_bytes texts) (Some (string_bytes t))
with_platform-new texts t new = rw (sym (any_text (string_bytes t) texts) ∙ new) (map-append string_bytes texts (t ∷ []))

-- and one that is among them is not
pub with_platform-known : (texts : List (String Global)) (t : String Global) → list_any (λ (other : String Global). bytes_eq (string_bytes t) (string_bytes other)) texts ≡ true
    → map string_bytes texts ≡ with_platform (map string_bytes texts) (Some (string_bytes t))
with_platform-known texts t known = rw (sym (any_text (string_bytes t) texts) ∙ known) refl

-- ---- an index of a layout

-- a key of another kind lists nothing
pub listed_by-other : (file : File) (graph : List Node) (k : Descriptor) → is_index (kind_of k.media_type) ≡ false → listed_by file graph k ≡ no_items
listed_by-other file graph k h = rw h refl

-- an index lists what its JSON lists
pub listed_by-index : (file : File) (graph : List Node) (k : Descriptor) (bytes : List ℕ) (value : Data) → is_index (kind_of k.media_type) ≡ true → value_at (stored file graph) k ≡ Some bytes → reading bytes ≡ Some value
    → manifests_in value ≡ listed_by file graph k
listed_by-index file graph k bytes value is at read = rw (is, at, read) refl

-- ---- what was picked

pub picked-is : (platform : List ℕ) (listed all : Items) (found : Option Picked) (p : Picked) → option_map picked_of found ≡ first_for platform listed → found ≡ Some p → listed ≡ all → first_for platform all ≡ Some (p.key, view p.descriptor)
picked-is platform listed all found p first is same = sym (ap (first_for platform) same) ∙ sym first ∙ ap (option_map picked_of) is

-- ---- how deep the elements of an index nest

-- the bytes of an index, as far as it is read, nest no deeper than the reader goes
pub shallow-read : (bytes : List ℕ) (index : Data) → reading bytes ≡ Some index → depth index ≤ 127
shallow-read bytes index is = depth-read bytes index (utf8_read bytes index is)

elements_in : (o : Option Data) → AtMost depth 126 o → items_depth (unwrap_or (option_and_then as_array o) no_items) ≤ 125
elements_in None h = omega arith
elements_in (Some null) h = omega arith
elements_in (Some (boolean b)) h = omega arith
elements_in (Some (number n)) h = omega arith
elements_in (Some (string s)) h = omega arith
elements_in (Some (array ds)) h = omega (arith, h)
elements_in (Some (object ms)) h = omega arith

pub shallow-manifests : (index : Data) → depth index ≤ 127 → items_depth (manifests_in index) ≤ 125
unfolding manifests_in
shallow-manifests index h = elements_in (get (codes "manifests") index) (get-depth (codes "manifests") index 126 (omega (arith, h)))

-- the first of some elements that states a platform nests no deeper than all
first_of : (o : Option Descriptor) (d : Data) (ds : Items) (platform : List ℕ) (k : Descriptor) (e : Data) (n : ℕ) → depth d ≤ n → (first_for platform ds ≡ Some (k, e) → depth e ≤ n)
    → option_or (option_map (λ j. (j, d)) o) (first_for platform ds) ≡ Some (k, e) → depth e ≤ n
first_of None d ds platform k e n here rest is = rest is
first_of (Some j) d ds platform k e n here rest is = subst (λ (x : Data). depth x ≤ n) (ap (λ (p : Descriptor × Data). p.1) (same_Some (j, d) (k, e) is)) here

pub shallow-first : (platform : List ℕ) (ds : Items) (k : Descriptor) (e : Data) (n : ℕ) → items_depth ds ≤ n → first_for platform ds ≡ Some (k, e) → depth e ≤ n
shallow-first platform no_items k e n h is = cc is
shallow-first platform (item d ds) k e n h is =
    let here : depth d ≤ n = omega (arith, h) in
    let rest : items_depth ds ≤ n = omega (arith, h) in
    first_of (key_for platform d) d ds platform k e n here (shallow-first platform ds k e n rest) is
