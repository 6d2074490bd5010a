-- One step of the loops over a manifest's lists and members.
use Rattle.std.proofs.Common.{◌≡◌, ℕ, ◌+◌, ◌<◌, ◌≤◌, List, [], ◌∷◌, ◌++◌, length, map, drop, get_or, Some, None, Result, Ok, Err, refl, sym, ap, ◌∙◌, append_assoc, append-nil, add-one, drop-cons}
use Rattle.std.proofs.Math.ListN.{drop_of_length-le}
use Rattle.serde_json.specs.Data.{Data, Items, item, no_items}
use Rattle.serde_json.specs.View.{view, items_view}
use Rattle.serde_json.specs.declared.value.Value.{Value}
use Rattle.oci_manifest.specs.Descriptor.{Descriptor}
use Rattle.oci_manifest.specs.Fault.{Fault, Fails, bad_descriptor}
use Rattle.oci_manifest.specs.Manifest.{Field}
use Rattle.oci_manifest.specs.Reading.{descriptor_of, descriptors_from, keys_of, all_keys, field_of, prepend, ◌>>=◌}
use Rattle.oci_manifest.specs.declared.fault.ManifestFault.{ManifestFault}
use Rattle.oci_manifest.specs.declared.fault.ManifestFault.TheVariants as fault
use Rattle.oci_manifest.specs.declared.manifest.member.Field as code

abbrev Keys : Type 0
Keys = List Descriptor

-- the rest of the list at a place in it
pub items_view-drop : (vs : List Value) (i : ℕ) (d : Value) → i < length vs → items_view (drop i vs) ≡ item (view (get_or vs i d)) (items_view (drop (i + 1) vs))
items_view-drop vs i d h = rw add-one (ap items_view (drop-cons vs i d h))

prepend-cons : (front : Keys) (k : Descriptor) (r : Result Keys Fault) → prepend front (r >>= λ ks. Ok (k ∷ ks)) ≡ prepend (front ++ k ∷ []) r
prepend-cons front k (Ok ks) = ap Ok (sym (append_assoc front (k ∷ []) ks))
prepend-cons front k (Err e) = refl

pub descriptors_from-good : (front : Keys) (name : List ℕ) (i : ℕ) (d : Data) (ds : Items) (k : Descriptor) → Some k ≡ descriptor_of d
    → prepend front (descriptors_from name i (item d ds)) ≡ prepend (front ++ k ∷ []) (descriptors_from name (i + 1) ds)
unfolding descriptors_from
descriptors_from-good front name i d ds k e = rw (← e) (prepend-cons front k (descriptors_from name (i + 1) ds))

pub descriptors_from-bad : (front : Keys) (name : List ℕ) (i : ℕ) (d : Data) (ds : Items) → None ≡ descriptor_of d
    → prepend front (descriptors_from name i (item d ds)) ≡ Err (bad_descriptor name i)
unfolding descriptors_from
descriptors_from-bad front name i d ds e = rw (← e) refl

pub descriptors_from-end : (front : Keys) (name : List ℕ) (i : ℕ) → prepend front (descriptors_from name i no_items) ≡ Ok (front ++ [])
unfolding descriptors_from
descriptors_from-end front name i = refl

-- a fault stays, whatever stands before
pub prepend_err : (front : Keys) (r : Result Keys Fault) (e : Fault) → prepend front r ≡ Err e → r ≡ Err e
prepend_err front (Ok ks) e h = cc h
prepend_err front (Err f) e h = h

prepend-append : (old new : Keys) (r s : Result Keys Fault) → prepend old r ≡ Ok new → prepend old (r >>= λ front. s >>= λ rest. Ok (front ++ rest)) ≡ prepend new s
prepend-append old new (Ok ks) (Ok rest) h =
    let e : old ++ ks ≡ new = cc h in
    ap Ok (sym (append_assoc old ks rest) ∙ ap (λ (t : Keys). t ++ rest) e)
prepend-append old new (Ok ks) (Err f) h = refl
prepend-append old new (Err e) s h = cc h

pub all_keys-step : (old new : Keys) (manifest : Data) (f : Field) (fs : List Field) → prepend old (keys_of manifest f) ≡ Ok new
    → prepend old (all_keys manifest (f ∷ fs)) ≡ prepend new (all_keys manifest fs)
unfolding all_keys
all_keys-step old new manifest f fs h = prepend-append old new (keys_of manifest f) (all_keys manifest fs) h

pub all_keys-bad : (front : Keys) (manifest : Data) (f : Field) (fs : List Field) (e : Fault) → keys_of manifest f ≡ Err e → prepend front (all_keys manifest (f ∷ fs)) ≡ Err e
unfolding all_keys
all_keys-bad front manifest f fs e h = rw h refl

pub all_keys-end : (front : Keys) (manifest : Data) → prepend front (all_keys manifest []) ≡ Ok (front ++ [])
unfolding all_keys
all_keys-end front manifest = refl

-- a fault of a part is the fault of the whole
pub Fails-through : {Y Z : Type 0} (e : ManifestFault) (r : Result Y Fault) (s : Result Z Fault) → ((f : Fault) → r ≡ Err f → s ≡ Err f) → Fails e r → Fails e s
Fails-through fault.NotJson r s h = h _
Fails-through fault.NotObject r s h = h _
Fails-through fault.NoConfig r s h = h _
Fails-through (fault.BadList m) r s h = h _
Fails-through (fault.BadDescriptor m i) r s h = h _
Fails-through fault.Memory r s h = λ u. u

pub list_step-good : (front : Keys) (name : List ℕ) (vs : List Value) (i : ℕ) (v : Value) (k : Descriptor) → i < length vs → v ≡ get_or vs i v → Some k ≡ descriptor_of (view v)
    → prepend front (descriptors_from name i (items_view (drop i vs))) ≡ prepend (front ++ k ∷ []) (descriptors_from name (i + 1) (items_view (drop (i + 1) vs)))
list_step-good front name vs i v k h e d =
    ap (λ ds. prepend front (descriptors_from name i ds)) (items_view-drop vs i v h)
    ∙ descriptors_from-good front name i (view (get_or vs i v)) (items_view (drop (i + 1) vs)) k (d ∙ ap (λ w. descriptor_of (view w)) e)

pub list_step-bad : (front : Keys) (name : List ℕ) (vs : List Value) (i : ℕ) (v : Value) → i < length vs → v ≡ get_or vs i v → None ≡ descriptor_of (view v)
    → prepend front (descriptors_from name i (items_view (drop i vs))) ≡ Err (bad_descriptor name i)
list_step-bad front name vs i v h e d =
    ap (λ ds. prepend front (descriptors_from name i ds)) (items_view-drop vs i v h)
    ∙ descriptors_from-bad front name i (view (get_or vs i v)) (items_view (drop (i + 1) vs)) (d ∙ ap (λ w. descriptor_of (view w)) e)

pub list_end : (front : Keys) (name : List ℕ) (vs : List Value) (i : ℕ) → length vs ≤ i → prepend front (descriptors_from name i (items_view (drop i vs))) ≡ Ok front
list_end front name vs i h =
    let none : drop i vs ≡ [] = drop_of_length-le vs h in
    ap (λ ds. prepend front (descriptors_from name i (items_view ds))) none ∙ descriptors_from-end front name i ∙ ap Ok (append-nil front)

fields_step : (fields : List code.Field) (i : ℕ) (d : code.Field) → i < length fields → map field_of (drop i fields) ≡ field_of (get_or fields i d) ∷ map field_of (drop (i + 1) fields)
fields_step fields i d h = rw add-one (ap (map field_of) (drop-cons fields i d h))

pub fields_step-good : (old new : Keys) (manifest : Data) (fields : List code.Field) (i : ℕ) (d : code.Field) → i < length fields
    → prepend old (keys_of manifest (field_of (get_or fields i d))) ≡ Ok new
    → prepend old (all_keys manifest (map field_of (drop i fields))) ≡ prepend new (all_keys manifest (map field_of (drop (i + 1) fields)))
fields_step-good old new manifest fields i d h e =
    ap (λ fs. prepend old (all_keys manifest fs)) (fields_step fields i d h)
    ∙ all_keys-step old new manifest (field_of (get_or fields i d)) (map field_of (drop (i + 1) fields)) e

pub fields_step-bad : (old first : Keys) (manifest : Data) (fields : List code.Field) (i : ℕ) (d : code.Field) (e : ManifestFault) → i < length fields
    → prepend old (all_keys manifest (map field_of (drop i fields))) ≡ prepend first (all_keys manifest (map field_of fields))
    → Fails e (keys_of manifest (field_of (get_or fields i d))) → Fails e (all_keys manifest (map field_of fields))
fields_step-bad old first manifest fields i d e h inv =
    Fails-through e (keys_of manifest (field_of (get_or fields i d))) (all_keys manifest (map field_of fields))
    (λ f bad. prepend_err first (all_keys manifest (map field_of fields)) f (sym inv ∙ ap (λ fs. prepend old (all_keys manifest fs)) (fields_step fields i d h)
    ∙ all_keys-bad old manifest (field_of (get_or fields i d)) (map field_of (drop (i + 1) fields)) f bad))

pub fields_end : (front : Keys) (manifest : Data) (fields : List code.Field) (i : ℕ) → length fields ≤ i → prepend front (all_keys manifest (map field_of (drop i fields))) ≡ Ok front
fields_end front manifest fields i h =
    let none : drop i fields ≡ [] = drop_of_length-le fields h in
    ap (λ fs. prepend front (all_keys manifest (map field_of fs))) none ∙ all_keys-end front manifest ∙ ap Ok (append-nil front)
