-- The functions that read the members of a manifest, against the relations that say what they hold.
use Rattle.std.proofs.Common.{◌≡◌, ℕ, ◌+◌, ◌⊎◌, inl, inr, List, [], ◌∷◌, ◌++◌, length, Option, Some, None, MatchOption, Ok, Err, refl, sym, ap, subst, ◌∙◌, arith}
use Rattle.std.specs.List.{AllZip}
use Rattle.serde_json.specs.Data.{Data, array, Items, no_items, item}
use Rattle.serde_json.specs.Find.{as_array}
use Rattle.serde_json.specs.View.{items_of}
use Rattle.oci_manifest.specs.Descriptor.{Descriptor}
use Rattle.oci_manifest.specs.Fault.{Fault, no_config, bad_list, bad_descriptor}
use Rattle.oci_manifest.specs.Manifest.{IsDescriptor, NoDescriptor, Field, optional, required, listed, member_of, Holds, HoldsAll, FaultOf, FirstFault}
use Rattle.oci_manifest.specs.Reading.{descriptor_of, or_fault, descriptors_from, single, optional_in, required_in, listed_in, keys_of, all_keys}
use Rattle.oci_manifest.proofs.Chains.{bind_ok, bind_err, or_ok, or_err, some_or_none}
use Rattle.oci_manifest.proofs.Descriptors.{array_some, descriptor_of-sound, descriptor_of-complete, none_descriptor, descriptor_of-none}

-- ---- a list of descriptors

list_of : Items → List Data
list_of no_items = []
list_of (item d ds) = d ∷ list_of ds

items_of-list_of : (ds : Items) → items_of (list_of ds) ≡ ds
unfolding list_of
items_of-list_of no_items = refl
items_of-list_of (item d ds) = ap (item d) (items_of-list_of ds)

descriptors_from-sound : (name : List ℕ) (i : ℕ) (ds : List Data) (ks : List Descriptor) → descriptors_from name i (items_of ds) ≡ Ok ks → AllZip IsDescriptor ds ks
unfolding descriptors_from
descriptors_from-sound name i [] [] h = tt
descriptors_from-sound name i [] (k ∷ ks) h = cc h
descriptors_from-sound name i (d ∷ ds) ks h =
    let a = bind_ok (or_fault (bad_descriptor name i) (descriptor_of d)) _ ks h in
    let b = bind_ok (descriptors_from name (i + 1) (items_of ds)) _ ks a.2 in
    let here = descriptor_of-sound d a.0 (or_ok (bad_descriptor name i) (descriptor_of d) a.0 a.1) in
    let rest = descriptors_from-sound name (i + 1) ds b.0 b.1 in
    let e : a.0 ∷ b.0 ≡ ks = cc b.2 in
    subst (AllZip IsDescriptor (d ∷ ds)) e (here, rest)

descriptors_from-complete : (name : List ℕ) (i : ℕ) (ds : List Data) (ks : List Descriptor) → AllZip IsDescriptor ds ks → descriptors_from name i (items_of ds) ≡ Ok ks
unfolding descriptors_from
descriptors_from-complete name i [] [] h = refl
descriptors_from-complete name i [] (k ∷ ks) h = absurd h
descriptors_from-complete name i (d ∷ ds) [] h = absurd h
descriptors_from-complete name i (d ∷ ds) (k ∷ ks) h =
    let here = descriptor_of-complete d k h.0 in
    let rest = descriptors_from-complete name (i + 1) ds ks h.1 in
    rw (here, rest) refl

-- the first element that is no descriptor
abbrev pub FirstBad : List ℕ → ℕ → List Data → Fault → Type 0
FirstBad name i ds f = (front : List Data) × (bad : Data) × (rest : List Data) × (ks : List Descriptor) × (ds ≡ front ++ bad ∷ rest) × AllZip IsDescriptor front ks × NoDescriptor bad × (f ≡ bad_descriptor name (i + length front))

descriptors_from-fault : (name : List ℕ) (i : ℕ) (ds : List Data) (f : Fault) → descriptors_from name i (items_of ds) ≡ Err f → FirstBad name i ds f
unfolding descriptors_from
descriptors_from-fault name i [] f h = cc h
descriptors_from-fault name i (d ∷ ds) f h =
    elim (bind_err (or_fault (bad_descriptor name i) (descriptor_of d)) _ f h) [
      | inl here ↦
          let e = or_err (bad_descriptor name i) f (descriptor_of d) here in
          ([], d, ds, [], refl, tt, none_descriptor d e.0, e.1 ∙ ap (bad_descriptor name) (omega arith))
      | inr a ↦
          let good = descriptor_of-sound d a.0 (or_ok (bad_descriptor name i) (descriptor_of d) a.0 a.1) in
          elim (bind_err (descriptors_from name (i + 1) (items_of ds)) _ f a.2) [
            | inl later ↦
                let r = descriptors_from-fault name (i + 1) ds f later in
                (d ∷ r.0, r.1, r.2, a.0 ∷ r.3, ap (λ (t : List Data). d ∷ t) r.4, (good, r.5), r.6, r.7 ∙ ap (bad_descriptor name) (omega arith))
            | inr b ↦ cc b.2
          ]
    ]

-- ---- members

single-sound : (name : List ℕ) (d : Data) (ks : List Descriptor) → single name d ≡ Ok ks → (k : Descriptor) × IsDescriptor d k × (ks ≡ k ∷ [])
single-sound name d ks h =
    let a = bind_ok (or_fault (bad_descriptor name 0) (descriptor_of d)) _ ks h in
    (a.0, descriptor_of-sound d a.0 (or_ok (bad_descriptor name 0) (descriptor_of d) a.0 a.1), cc a.2)

single-complete : (name : List ℕ) (d : Data) (ks : List Descriptor) → (k : Descriptor) × IsDescriptor d k × (ks ≡ k ∷ []) → single name d ≡ Ok ks
single-complete name d ks h =
    let here = descriptor_of-complete d h.0 h.1 in
    rw here (ap Ok (sym h.2))

single-fault : (name : List ℕ) (d : Data) (f : Fault) → single name d ≡ Err f → NoDescriptor d × (f ≡ bad_descriptor name 0)
single-fault name d f h =
    elim (bind_err (or_fault (bad_descriptor name 0) (descriptor_of d)) _ f h) [
      | inl here ↦
          let e = or_err (bad_descriptor name 0) f (descriptor_of d) here in
          (none_descriptor d e.0, e.1)
      | inr a ↦ cc a.2
    ]

optional-sound : (name : List ℕ) (o : Option Data) (ks : List Descriptor) → optional_in name o ≡ Ok ks → MatchOption o (ks ≡ []) (λ d. (k : Descriptor) × IsDescriptor d k × (ks ≡ k ∷ []))
optional-sound name None ks h = cc h
optional-sound name (Some d) ks h = single-sound name d ks h

required-sound : (name : List ℕ) (o : Option Data) (ks : List Descriptor) → required_in name o ≡ Ok ks → MatchOption o ⊥ (λ d. (k : Descriptor) × IsDescriptor d k × (ks ≡ k ∷ []))
required-sound name None ks h = cc h
required-sound name (Some d) ks h = single-sound name d ks h

listed-sound : (name : List ℕ) (o : Option Data) (ks : List Descriptor) → listed_in name o ≡ Ok ks → MatchOption o (ks ≡ []) (λ d. (ds : List Data) × (d ≡ array (items_of ds)) × AllZip IsDescriptor ds ks)
listed-sound name None ks h = cc h
listed-sound name (Some d) ks h =
    let a = bind_ok (or_fault (bad_list name) (as_array d)) _ ks h in
    let same = items_of-list_of a.0 in (
      list_of a.0,
      array_some d a.0 (or_ok (bad_list name) (as_array d) a.0 a.1) ∙ ap array (sym same),
      descriptors_from-sound name 0 (list_of a.0) ks (ap (descriptors_from name 0) same ∙ a.2),
    )

keys_of-sound : (m : Data) (f : Field) (ks : List Descriptor) → keys_of m f ≡ Ok ks → Holds m f ks
unfolding keys_of
keys_of-sound m (optional name) ks h = optional-sound name (member_of m name) ks h
keys_of-sound m (required name) ks h = required-sound name (member_of m name) ks h
keys_of-sound m (listed name) ks h = listed-sound name (member_of m name) ks h

optional-complete : (name : List ℕ) (o : Option Data) (ks : List Descriptor) → MatchOption o (ks ≡ []) (λ d. (k : Descriptor) × IsDescriptor d k × (ks ≡ k ∷ [])) → optional_in name o ≡ Ok ks
optional-complete name None ks h = ap Ok (sym h)
optional-complete name (Some d) ks h = single-complete name d ks h

required-complete : (name : List ℕ) (o : Option Data) (ks : List Descriptor) → MatchOption o ⊥ (λ d. (k : Descriptor) × IsDescriptor d k × (ks ≡ k ∷ [])) → required_in name o ≡ Ok ks
required-complete name None ks h = absurd h
required-complete name (Some d) ks h = single-complete name d ks h

listed-complete : (name : List ℕ) (o : Option Data) (ks : List Descriptor) → MatchOption o (ks ≡ []) (λ d. (ds : List Data) × (d ≡ array (items_of ds)) × AllZip IsDescriptor ds ks) → listed_in name o ≡ Ok ks
listed-complete name None ks h = ap Ok (sym h)
listed-complete name (Some d) ks h = rw h.1 (descriptors_from-complete name 0 h.0 ks h.2)

keys_of-complete : (m : Data) (f : Field) (ks : List Descriptor) → Holds m f ks → keys_of m f ≡ Ok ks
unfolding keys_of
keys_of-complete m (optional name) ks h = optional-complete name (member_of m name) ks h
keys_of-complete m (required name) ks h = required-complete name (member_of m name) ks h
keys_of-complete m (listed name) ks h = listed-complete name (member_of m name) ks h

optional-fault : (name : List ℕ) (o : Option Data) (f : Fault) → optional_in name o ≡ Err f → MatchOption o ⊥ (λ d. NoDescriptor d × (f ≡ bad_descriptor name 0))
optional-fault name None f h = cc h
optional-fault name (Some d) f h = single-fault name d f h

required-fault : (name : List ℕ) (o : Option Data) (f : Fault) → required_in name o ≡ Err f → MatchOption o (f ≡ no_config) (λ d. NoDescriptor d × (f ≡ bad_descriptor name 0))
required-fault name None f h = cc h
required-fault name (Some d) f h = single-fault name d f h

-- a member that is to be a list breaks this rule
abbrev BreaksList : List ℕ → Fault → Data → Type 0
BreaksList name f d = (((ds : List Data) → d ≡ array (items_of ds) → ⊥) × (f ≡ bad_list name))
    ⊎ ((front : List Data) × (bad : Data) × (rest : List Data) × (ks : List Descriptor) × (d ≡ array (items_of (front ++ bad ∷ rest)))
    × AllZip IsDescriptor front ks × NoDescriptor bad × (f ≡ bad_descriptor name (length front)))

list_fault : (name : List ℕ) (d : Data) (f : Fault) → listed_in name (Some d) ≡ Err f → BreaksList name f d
list_fault name d f h =
    elim (bind_err (or_fault (bad_list name) (as_array d)) _ f h) [
      | inl here ↦
          let e = or_err (bad_list name) f (as_array d) here in
          inl (λ ds same. cc (sym e.0 ∙ ap as_array same), e.1)
      | inr a ↦
          let same = items_of-list_of a.0 in
          let r = descriptors_from-fault name 0 (list_of a.0) f (ap (descriptors_from name 0) same ∙ a.2) in
          let whole : d ≡ array (items_of (list_of a.0)) = array_some d a.0 (or_ok (bad_list name) (as_array d) a.0 a.1) ∙ ap array (sym same) in
          inr (r.0, r.1, r.2, r.3, whole ∙ ap (λ (t : List Data). array (items_of t)) r.4, r.5, r.6, r.7 ∙ ap (bad_descriptor name) (omega arith))
    ]

listed-fault : (name : List ℕ) (o : Option Data) (f : Fault) → listed_in name o ≡ Err f → MatchOption o ⊥ (BreaksList name f)
listed-fault name None f h = cc h
listed-fault name (Some d) f h = list_fault name d f h

keys_of-fault : (m : Data) (g : Field) (f : Fault) → keys_of m g ≡ Err f → FaultOf m g f
unfolding keys_of
keys_of-fault m (optional name) f h = optional-fault name (member_of m name) f h
keys_of-fault m (required name) f h = required-fault name (member_of m name) f h
keys_of-fault m (listed name) f h = listed-fault name (member_of m name) f h

-- ---- the first fault, read back as an answer

descriptors_from-broken : (name : List ℕ) (i : ℕ) (front : List Data) (bad : Data) (rest : List Data) (ks : List Descriptor) → AllZip IsDescriptor front ks → NoDescriptor bad
    → descriptors_from name i (items_of (front ++ bad ∷ rest)) ≡ Err (bad_descriptor name (i + length front))
unfolding descriptors_from
descriptors_from-broken name i [] bad rest ks h none =
    let wrong = descriptor_of-none bad none in
    rw wrong (ap (λ (n : ℕ). Err (bad_descriptor name n)) (omega arith))
descriptors_from-broken name i (d ∷ ds) bad rest [] h none = absurd h
descriptors_from-broken name i (d ∷ ds) bad rest (k ∷ ks) h none =
    let here = descriptor_of-complete d k h.0 in
    let later = descriptors_from-broken name (i + 1) ds bad rest ks h.1 none in
    rw (here, later) (ap (λ (n : ℕ). Err (bad_descriptor name n)) (omega arith))

single-broken : (name : List ℕ) (d : Data) (f : Fault) → NoDescriptor d × (f ≡ bad_descriptor name 0) → single name d ≡ Err f
single-broken name d f h =
    let wrong = descriptor_of-none d h.0 in
    rw wrong (ap Err (sym h.1))

optional-broken : (name : List ℕ) (o : Option Data) (f : Fault) → MatchOption o ⊥ (λ d. NoDescriptor d × (f ≡ bad_descriptor name 0)) → optional_in name o ≡ Err f
optional-broken name None f h = absurd h
optional-broken name (Some d) f h = single-broken name d f h

required-broken : (name : List ℕ) (o : Option Data) (f : Fault) → MatchOption o (f ≡ no_config) (λ d. NoDescriptor d × (f ≡ bad_descriptor name 0)) → required_in name o ≡ Err f
required-broken name None f h = ap Err (sym h)
required-broken name (Some d) f h = single-broken name d f h

no_list : (d : Data) → ((ds : List Data) → d ≡ array (items_of ds) → ⊥) → as_array d ≡ None
no_list d h =
    elim (some_or_none (as_array d)) [
      | inl none ↦ none
      | inr found ↦ absurd (h (list_of found.0) (array_some d found.0 found.1 ∙ ap array (sym (items_of-list_of found.0))))
    ]

list-broken : (name : List ℕ) (d : Data) (f : Fault) → BreaksList name f d → listed_in name (Some d) ≡ Err f
list-broken name d f (inl h) =
    let wrong = no_list d h.0 in
    rw wrong (ap Err (sym h.1))
list-broken name d f (inr h) = rw h.4 (descriptors_from-broken name 0 h.0 h.1 h.2 h.3 h.5 h.6 ∙ ap Err (ap (bad_descriptor name) (omega arith) ∙ sym h.7))

listed-broken : (name : List ℕ) (o : Option Data) (f : Fault) → MatchOption o ⊥ (BreaksList name f) → listed_in name o ≡ Err f
listed-broken name None f h = absurd h
listed-broken name (Some d) f h = list-broken name d f h

keys_of-broken : (m : Data) (g : Field) (f : Fault) → FaultOf m g f → keys_of m g ≡ Err f
unfolding keys_of
keys_of-broken m (optional name) f h = optional-broken name (member_of m name) f h
keys_of-broken m (required name) f h = required-broken name (member_of m name) f h
keys_of-broken m (listed name) f h = listed-broken name (member_of m name) f h

-- ---- all members

pub all_keys-broken : (m : Data) (fs : List Field) (f : Fault) → FirstFault m fs f → all_keys m fs ≡ Err f
unfolding all_keys
all_keys-broken m [] f h = absurd h
all_keys-broken m (g ∷ gs) f (inl here) =
    let bad = keys_of-broken m g f here in
    rw bad refl
all_keys-broken m (g ∷ gs) f (inr later) =
    let good = keys_of-complete m g later.0 later.1 in
    let bad = all_keys-broken m gs f later.2 in
    rw (good, bad) refl

pub all_keys-sound : (m : Data) (fs : List Field) (ks : List Descriptor) → all_keys m fs ≡ Ok ks → HoldsAll m fs ks
unfolding all_keys
all_keys-sound m [] ks h = cc h
all_keys-sound m (f ∷ fs) ks h =
    let a = bind_ok (keys_of m f) _ ks h in
    let b = bind_ok (all_keys m fs) _ ks a.2 in
    (a.0, b.0, keys_of-sound m f a.0 a.1, all_keys-sound m fs b.0 b.1, cc b.2)

pub all_keys-complete : (m : Data) (fs : List Field) (ks : List Descriptor) → HoldsAll m fs ks → all_keys m fs ≡ Ok ks
unfolding all_keys
all_keys-complete m [] ks h = ap Ok (sym h)
all_keys-complete m (f ∷ fs) ks h =
    let here = keys_of-complete m f h.0 h.2 in
    let rest = all_keys-complete m fs h.1 h.3 in
    rw (here, rest) (ap Ok (sym h.4))

pub all_keys-fault : (m : Data) (fs : List Field) (f : Fault) → all_keys m fs ≡ Err f → FirstFault m fs f
unfolding all_keys
all_keys-fault m [] f h = cc h
all_keys-fault m (g ∷ gs) f h =
    elim (bind_err (keys_of m g) _ f h) [
      | inl here ↦ inl (keys_of-fault m g f here)
      | inr a ↦
          elim (bind_err (all_keys m gs) _ f a.2) [
            | inl later ↦ inr (a.0, keys_of-sound m g a.0 a.1, all_keys-fault m gs f later)
            | inr b ↦ cc b.2
          ]
    ]
