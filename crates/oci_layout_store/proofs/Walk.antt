-- How far a walk over the files is.
use Rattle.std.proofs.Common.{◌≡◌, ℕ, zero, suc, ◌+◌, ◌<◌, ◌≤◌, Bool, true, false, cond, not, ◌&&◌, ◌⊎◌, inl, inr, List, [], ◌∷◌, ◌++◌, map, length, take, get_or, Option, Some, None, is_some, is_ok, option_map, Result, Ok, Err, refl, sym, ap, subst, ◌∙◌, append-nil, arith}
use Rattle.std.specs.List.{filter, slice_get}
use Rattle.std.specs.Option.{unwrap_or}
use Rattle.std.specs.Result.{result_unwrap_or}
use Rattle.std.specs.Str.{is_utf8, chars}
use Rattle.serde_json.proofs.OnLiterals.{serde_json_on_literals}
use Rattle.oci_manifest.specs.Fault.{Fault}
use Rattle.oci_manifest.specs.MediaTypes.{kind_of}
use Rattle.oci_manifest.specs.Reading.{successors_of, manifest_keys}
use Rattle.oci_manifest.specs.declared.kind.Kind.{Kind}
use Rattle.oci_manifest.specs.declared.kind.Kind.TheVariants.{Image, Index, DockerImage, DockerList, Artifact, Leaf}
use Rattle.oci_layout_store.specs.Blobs.{blob_path, blob_at, stored, IsSound, HasMatchingFiles, keys_of-stored}
use Rattle.std.proofs.lemmas.Bool.{and_right, not-true, cases_Bool, eq-eqb, eqb-true}
use Rattle.std.proofs.lemmas.List.{take_more, take-append-le, map-append}
use Rattle.std.proofs.lemmas.List.Elements.{filter-append}
use Rattle.std.proofs.lemmas.Option.{same_Some, slice_get_within, get_or_from_slice_get}
use Rattle.oci_manifest.specs.Descriptor.{Descriptor, same_key, is_among}
use Rattle.oci_manifest.specs.Manifest.{first_places}
use Rattle.std.specs.Prelude.{◌≢◌, ◌==◌, IsOk, IsSome}
use Rattle.std.specs.List.{All, IsDistinct}
use Rattle.std.proofs.lemmas.List.Elements.{All-nil, All-cons, All-head, All-tail, All-weaker}
use Rattle.oci_store.specs.Content.{Entry, Matches, succ_of}
use Rattle.oci_store.specs.Graph.{Node, nodes_of}
use Rattle.oci_store.specs.Keyed.{has_key, HasDistinctKeys}
use Rattle.oci_dir.specs.Device.{Device, File, of_length}
use Rattle.oci_store.specs.Visiting.{candidates, next_visit, with_keys, IsVisiting, start, next}
use Rattle.oci_store.proofs.Membership.{Keys, find-Some, first_places-append, with_keys-grows, slice_get-append_left}
use Rattle.oci_store.proofs.Visits.{next_visit-at, candidates-push, first_places-all}
use Rattle.oci_store.specs.Push.{Refusal, content_check}
use Rattle.oci_store.proofs.Checks.{content_check-ok, push_check-fresh}
use Rattle.oci_store.proofs.Contents.{IsNew-from_check}
use Rattle.oci_layout_store.specs.Opened.{listed_in, any, holds, is_damaged, is_right, is_there, is_whole, lists, IsWalk, IsGood, HasWalked, held_in}
use Rattle.oci_layout_store.specs.Refusal.{IsCorrupt, IsDamage, IsDamageFault, IsManifestFault, IsNextVisited, IsOfOtherSize, IsStepFault, IsUnread, IsWalkFault}
use Rattle.oci_layout_store.specs.declared.fault.LayoutFault.{LayoutFault}
use Rattle.oci_layout_store.specs.declared.fault.LayoutFault.TheVariants as fault
use Rattle.oci_manifest.specs.declared.fault.ManifestFault.{ManifestFault}

-- ---- the walk
-- the first i of the keys were visited, and the keys are the candidates so far
pub record IsWalking (as_is : Bool) (file : File) (starts keys : Keys) (i : ℕ) : Type 0 where
  pub visiting : IsVisiting (lists as_is file) any starts (take i keys)
  pub found : keys ≡ first_places (candidates (lists as_is file) starts (take i keys))
  pub inside : i ≤ length keys

next_is : (as_is : Bool) (file : File) (starts keys : Keys) (i : ℕ) → IsWalking as_is file starts keys i → next_visit (lists as_is file) any starts (take i keys) ≡ slice_get keys i
next_is as_is file starts keys i h =
    next_visit-at (lists as_is file) any starts keys i (h.found ∙ ap first_places (sym (first_places-all (candidates (lists as_is file) starts (take i keys)))))

pub IsWalking-start : (as_is : Bool) (file : File) (starts keys : Keys) → keys ≡ with_keys [] starts → IsWalking as_is file starts keys 0
IsWalking-start as_is file starts keys h = record {
  visiting = start;
  found = h ∙ sym (first_places-append [] starts) ∙ ap first_places (sym (append-nil starts));
  inside = omega arith;
}

pub take_next : (keys after : Keys) (more : Keys) (i : ℕ) (k : Descriptor) → after ≡ with_keys keys more → slice_get keys i ≡ Some k → take (i + 1) after ≡ take i keys ++ k ∷ []
take_next keys after more i k e at =
    let r = with_keys-grows keys more in
    let grown : after ≡ keys ++ r.0 = e ∙ r.1 in
    let lt : i < length keys = slice_get_within keys i k at in
    let here : slice_get (keys ++ r.0) i ≡ Some k = slice_get-append_left keys r.0 i k at in
    let lt2 : i < length (keys ++ r.0) = slice_get_within (keys ++ r.0) i k here in
    ap (take (i + 1)) grown ∙ take_more (keys ++ r.0) i k lt2 ∙ ap (λ (t : Keys). t ++ get_or (keys ++ r.0) i k ∷ []) (take-append-le i keys r.0 (omega (arith, lt)))
    ∙ ap (λ (x : Descriptor). take i keys ++ x ∷ []) (get_or_from_slice_get (keys ++ r.0) i k k here)

pub IsWalking-step : (as_is : Bool) (file : File) (starts keys after : Keys) (i : ℕ) (k : Descriptor) → IsWalking as_is file starts keys i → slice_get keys i ≡ Some k → after ≡ with_keys keys (lists as_is file k) → IsWalking as_is file starts after (i + 1)
IsWalking-step as_is file starts keys after i k h at e =
    let taken = take_next keys after (lists as_is file k) i k e at in
    let lt : i + 1 ≤ length after = within after i k (after_at at) in
    record {
      visiting = rw taken (next h.visiting (next_is as_is file starts keys i h ∙ at));
      found = e ∙ ap (λ (t : Keys). with_keys t (lists as_is file k)) h.found ∙ sym (first_places-append (candidates (lists as_is file) starts (take i keys)) (lists as_is file k))
          ∙ ap first_places (sym (candidates-push (lists as_is file) starts (take i keys) k)) ∙ ap (λ (t : Keys). first_places (candidates (lists as_is file) starts t)) (sym taken);
      inside = lt;
    }
  where
    after_at : slice_get keys i ≡ Some k → slice_get after i ≡ Some k
    after_at there = let r = with_keys-grows keys (lists as_is file k) in subst (λ (t : Keys). slice_get t i ≡ Some k) (sym (e ∙ r.1)) (slice_get-append_left keys r.0 i k there)

    within : (ks : Keys) (j : ℕ) (x : Descriptor) → slice_get ks j ≡ Some x → j + 1 ≤ length ks
    within ks j x there = let lt = slice_get_within ks j x there in omega (arith, lt)

take_whole : (keys : Keys) (i : ℕ) → i ≤ length keys → slice_get keys i ≡ None → take i keys ≡ keys
take_whole [] zero le none = refl
take_whole [] (suc i) le none = absurd (omega (arith, le))
take_whole (k ∷ keys) zero le none = cc none
take_whole (k ∷ keys) (suc i) le none = ap (λ (t : Keys). k ∷ t) (take_whole keys i (omega (arith, le)) none)

pub IsWalk-end : (as_is : Bool) (file : File) (starts keys : Keys) (i : ℕ) → IsWalking as_is file starts keys i → slice_get keys i ≡ None → IsWalk as_is file starts keys × (take i keys ≡ keys)
IsWalk-end as_is file starts keys i h none =
    let whole = take_whole keys i h.inside none in
    (record { is_visiting = subst (IsVisiting (lists as_is file) any starts) whole h.visiting; is_whole = subst (λ (t : Keys). next_visit (lists as_is file) any starts t ≡ None) whole (next_is as_is file starts keys i h ∙ none) }, whole)

-- ---- what is held
pub held_in-push : (as_is : Bool) (file : File) (keys : Keys) (k : Descriptor) → held_in as_is file (keys ++ k ∷ []) ≡ held_in as_is file keys ++ held_in as_is file (k ∷ [])
held_in-push as_is file keys k =
    ap (map (λ (x : Descriptor). (x, listed_in file x))) (filter-append (holds as_is file) keys (k ∷ []))
    ∙ map-append (λ (x : Descriptor). (x, listed_in file x)) (filter (holds as_is file) keys) (filter (holds as_is file) (k ∷ []))

held_among : (as_is : Bool) (file : File) (keys : Keys) (k : Descriptor) → is_among keys k ≡ false → has_key (held_in as_is file keys) k ≡ false
held_among as_is file [] k h = refl
held_among as_is file (x ∷ keys) k h =
    elim (cases_Bool (same_key x k)) [
      | inl same ↦ cc (rw same at h)
      | inr apart ↦
          let rest = held_among as_is file keys k (rw apart at h) in
          elim (holds as_is file x) as (λ b. has_key (map (λ (y : Descriptor). (y, listed_in file y)) (cond b (x ∷ filter (holds as_is file) keys) (filter (holds as_is file) keys))) k ≡ false) [ true ↦ rw apart rest | false ↦ rest ]
    ]

pub held_fresh : (as_is : Bool) (file : File) (starts keys : Keys) (i : ℕ) (k : Descriptor) → IsWalking as_is file starts keys i → slice_get keys i ≡ Some k → has_key (held_in as_is file (take i keys)) k ≡ false
held_fresh as_is file starts keys i k h at =
    held_among as_is file (take i keys) k (not-true (is_among (take i keys) k) (find-Some _ (candidates (lists as_is file) starts (take i keys)) k (next_is as_is file starts keys i h ∙ at)).0)

-- ---- what a file lists
-- no bytes list nothing
nothing_listed : (kind : Kind) → result_unwrap_or (successors_of kind []) [] ≡ []
unfolding successors_of manifest_keys serde_json_on_literals is_utf8 chars
nothing_listed Image = refl
nothing_listed Index = refl
nothing_listed DockerImage = refl
nothing_listed DockerList = refl
nothing_listed Artifact = refl
nothing_listed Leaf = refl

absent_bytes : (o : Option (List ℕ)) → is_some o ≡ false → unwrap_or o [] ≡ []
absent_bytes None h = refl
absent_bytes (Some x) h = cc h

pub absent_lists : (file : File) (k : Descriptor) → is_there file k ≡ false → listed_in file k ≡ []
absent_lists file k h =
    ap (λ (bytes : List ℕ). result_unwrap_or (successors_of (kind_of k.media_type) bytes) []) (absent_bytes (file (blob_path k.digest)) h) ∙ nothing_listed (kind_of k.media_type)

leaf_lists_nothing : (bytes : List ℕ) → result_unwrap_or (successors_of Leaf bytes) [] ≡ []
unfolding successors_of
leaf_lists_nothing bytes = refl

pub leaf_lists : (file : File) (k : Descriptor) → kind_of k.media_type ≡ Leaf → listed_in file k ≡ []
leaf_lists file k leaf =
    ap (λ (kind : Kind). result_unwrap_or (successors_of kind (blob_at file k.digest)) []) leaf ∙ leaf_lists_nothing (blob_at file k.digest)

-- a key that is not held lists nothing, and a held one what its file lists
pub unheld_lists : (as_is : Bool) (file : File) (k : Descriptor) → holds as_is file k ≡ false → lists as_is file k ≡ []
unheld_lists as_is file k h = ap (λ (b : Bool). cond b (listed_in file k) []) h

pub held_lists : (as_is : Bool) (file : File) (k : Descriptor) → holds as_is file k ≡ true → lists as_is file k ≡ listed_in file k
held_lists as_is file k h = ap (λ (b : Bool). cond b (listed_in file k) []) h

pub leaf_lists-held : (as_is : Bool) (file : File) (k : Descriptor) → kind_of k.media_type ≡ Leaf → lists as_is file k ≡ []
leaf_lists-held as_is file k leaf = elim (cases_Bool (holds as_is file k)) [
  | inl held ↦ held_lists as_is file k held ∙ leaf_lists file k leaf
  | inr not ↦ unheld_lists as_is file k not
]

-- ---- what is held
there_whole : (right : List ℕ → Bool) (o : Option (List ℕ)) → unwrap_or (option_map right o) false ≡ true → is_some o ≡ true
there_whole right None h = cc h
there_whole right (Some bytes) h = refl

-- a held key has a file
pub there_held : (as_is : Bool) (file : File) (k : Descriptor) → holds as_is file k ≡ true → is_there file k ≡ true
there_held true file k h = there_whole (is_right (kind_of k.media_type) k) (file (blob_path k.digest)) h
there_held false file k h = h

pub absent_unheld : (as_is : Bool) (file : File) (k : Descriptor) → is_there file k ≡ false → holds as_is file k ≡ false
absent_unheld as_is file k gone = elim (cases_Bool (holds as_is file k)) [ inl held ↦ cc (there_held as_is file k held, gone) | inr not ↦ not ]

right_ok : (kind : Kind) (k : Descriptor) (bytes : List ℕ) → kind ≢ Leaf → is_ok (content_check k bytes) ≡ true → is_right kind k bytes ≡ true
right_ok Image k bytes other h = h
right_ok Index k bytes other h = h
right_ok DockerImage k bytes other h = h
right_ok DockerList k bytes other h = h
right_ok Artifact k bytes other h = h
right_ok Leaf k bytes other h = absurd (other refl)

right_checked : (kind : Kind) (k : Descriptor) (bytes : List ℕ) → kind ≢ Leaf → is_right kind k bytes ≡ true → is_ok (content_check k bytes) ≡ true
right_checked Image k bytes other h = h
right_checked Index k bytes other h = h
right_checked DockerImage k bytes other h = h
right_checked DockerList k bytes other h = h
right_checked Artifact k bytes other h = h
right_checked Leaf k bytes other h = absurd (other refl)

whole_there : (right : List ℕ → Bool) (o : Option (List ℕ)) → is_some o ≡ true → ((bytes : List ℕ) → o ≡ Some bytes → right bytes ≡ true) → unwrap_or (option_map right o) false ≡ true
whole_there right None there each = cc there
whole_there right (Some bytes) there each = each bytes refl

whole_bytes : (right : List ℕ → Bool) (o : Option (List ℕ)) (bytes : List ℕ) → o ≡ Some bytes → unwrap_or (option_map right o) false ≡ true → right bytes ≡ true
whole_bytes right o bytes at h = rw at at h

-- a good manifest that is there is whole, and a leaf that has the size of its key
pub manifest_whole : (file : File) (k : Descriptor) → kind_of k.media_type ≢ Leaf → is_there file k ≡ true → IsGood file k → is_whole file k ≡ true
manifest_whole file k other there good =
    whole_there (is_right (kind_of k.media_type) k) (file (blob_path k.digest)) there (λ bytes at. (let g = good other bytes at in
    right_ok (kind_of k.media_type) k bytes other (ap is_ok (content_check-ok k bytes g.1.0 (record { matching = g.0; reads = g.1.1 })))))

-- the bytes of a manifest that are right, and what they list
pub read_whole : (file : File) (k : Descriptor) (bytes : List ℕ) (ks : List Descriptor) → kind_of k.media_type ≢ Leaf → file (blob_path k.digest) ≡ Some bytes → Matches k bytes → succ_of k bytes ≡ Ok ks
    → (is_whole file k ≡ true) × (ks ≡ listed_in file k)
read_whole file k bytes ks other at matching reads = (
  manifest_whole file k other (ap is_some at) (λ _ found there. (let same : bytes ≡ found = same_Some bytes found (sym at ∙ there) in
      (subst (Matches k) same matching, (ks, ap (succ_of k) (sym same) ∙ reads)))),
  sym (ap (λ (o : Option (List ℕ)). result_unwrap_or (succ_of k (unwrap_or o [])) []) at ∙ ap (λ (r : Result (List Descriptor) Fault). result_unwrap_or r []) reads),
)

-- bytes that were found with a length are those of the file
pub of_length_is : (size : ℕ) (found : Option (List ℕ)) (bytes : List ℕ) → of_length size found ≡ Some bytes → found ≡ Some bytes
of_length_is size None bytes is = is
of_length_is size (Some whole) bytes is = elim (cases_Bool (length whole == size)) [ inl same ↦ rw same at is | inr other ↦ cc (rw other at is) ]

pub leaf_whole : (file : File) (k : Descriptor) (bytes : List ℕ) → kind_of k.media_type ≡ Leaf → file (blob_path k.digest) ≡ Some bytes → length bytes ≡ k.size → is_whole file k ≡ true
leaf_whole file k bytes leaf at size =
    ap (λ (o : Option (List ℕ)). unwrap_or (option_map (is_right (kind_of k.media_type) k) o) false) at ∙ ap (λ (kind : Kind). is_right kind k bytes) leaf ∙ eq-eqb (length bytes) k.size size

checked : (k : Descriptor) (bytes : List ℕ) (r : Result (List Descriptor) Refusal) → content_check k bytes ≡ r → is_ok r ≡ true → Matches k bytes × ((ks : List Descriptor) × (succ_of k bytes ≡ Ok ks))
checked k bytes (Ok ks) e h =
    let new = IsNew-from_check [] k bytes ks (push_check-fresh [] k bytes refl ∙ e) in
    (new.matching, (ks, new.reads))
checked k bytes (Err r) e h = cc h

-- a manifest that is held by an opening as it is is good
pub whole_good : (file : File) (k : Descriptor) → is_whole file k ≡ true → IsGood file k
whole_good file k h other bytes at =
    checked k bytes (content_check k bytes) refl (right_checked (kind_of k.media_type) k bytes other (whole_bytes (is_right (kind_of k.media_type) k) (file (blob_path k.digest)) bytes at h))

-- a leaf whose file was found with the size of its key
pub leaf_found : (file : File) (k : Descriptor) (size : ℕ) → kind_of k.media_type ≡ Leaf → Some size ≡ option_map length (file (blob_path k.digest)) → size ≡ k.size → is_whole file k ≡ true
leaf_found file k size leaf found same = found_in (file (blob_path k.digest)) refl found
  where
    found_in : (o : Option (List ℕ)) → file (blob_path k.digest) ≡ o → Some size ≡ option_map length o → is_whole file k ≡ true
    found_in None at is = cc is
    found_in (Some bytes) at is = leaf_whole file k bytes leaf at (sym (same_Some size (length bytes) is) ∙ same)

leaf_cut : (file : File) (k : Descriptor) → IsOfOtherSize file k → is_whole file k ≡ false
leaf_cut file k h = elim (cases_Bool (is_whole file k)) [
  | inr not ↦ not
  | inl whole ↦
      let right : is_right Leaf k h.1 ≡ true =
      subst (λ (kind : Kind). is_right kind k h.1 ≡ true) h.0 (whole_bytes (is_right (kind_of k.media_type) k) (file (blob_path k.digest)) h.1 h.2 whole) in
      absurd (h.3 (eqb-true (length h.1) k.size right))
]

not_whole : (file : File) (k : Descriptor) → (IsGood file k → ⊥) → is_whole file k ≡ false
not_whole file k bad = elim (cases_Bool (is_whole file k)) [ inl whole ↦ absurd (bad (whole_good file k whole)) | inr not ↦ not ]

-- a manifest whose file does not match it, or cannot be read, is damaged
pub corrupt_damaged : (file : File) (k : Descriptor) → IsCorrupt file k → is_damaged true file k ≡ true
corrupt_damaged file k h =
    let bad : is_whole file k ≡ false = not_whole file k (λ good. h.3 (good h.0 h.1 h.2).0) in
    let there : is_there file k ≡ true = ap is_some h.2 in
    ap (λ (b : Bool). b && not (is_whole file k)) there ∙ ap not bad

cut_damaged : (file : File) (k : Descriptor) → IsOfOtherSize file k → is_damaged true file k ≡ true
cut_damaged file k h =
    let there : is_there file k ≡ true = ap is_some h.2 in
    ap (λ (b : Bool). b && not (is_whole file k)) there ∙ ap not (leaf_cut file k h)

pub unread_damaged : (file : File) (k : Descriptor) (e : ManifestFault) → IsUnread file k e → is_damaged true file k ≡ true
unread_damaged file k e h =
    let bad : is_whole file k ≡ false = not_whole file k (λ good. (let g = good h.0 h.1 h.3 in cc (g.1.1, h.5))) in
    let there : is_there file k ≡ true = ap is_some h.3 in
    ap (λ (b : Bool). b && not (is_whole file k)) there ∙ ap not bad

second_true : (a b : Bool) → a && b ≡ true → b ≡ true
second_true true b h = h
second_true false b h = cc h

-- what a held key adds to what is held and damaged, and one that is not held
pub held_one : (as_is : Bool) (file : File) (k : Descriptor) → holds as_is file k ≡ true → held_in as_is file (k ∷ []) ≡ (k, listed_in file k) ∷ []
held_one as_is file k h = ap (λ (b : Bool). map (λ (x : Descriptor). (x, listed_in file x)) (cond b (k ∷ []) [])) h

pub unheld_one : (as_is : Bool) (file : File) (k : Descriptor) → holds as_is file k ≡ false → held_in as_is file (k ∷ []) ≡ []
unheld_one as_is file k h = ap (λ (b : Bool). map (λ (x : Descriptor). (x, listed_in file x)) (cond b (k ∷ []) [])) h

pub none_held : (graph more : List Node) → more ≡ [] → graph ≡ graph ++ more
none_held graph more h = sym (append-nil graph) ∙ ap (λ (g : List Node). graph ++ g) (sym h)

pub held_sound : (as_is : Bool) (file : File) (k : Descriptor) → holds as_is file k ≡ true → is_damaged as_is file k ≡ false
held_sound as_is file k h = and_right (is_there file k) (not (holds as_is file k)) (ap not h)

pub absent_sound : (as_is : Bool) (file : File) (k : Descriptor) → is_there file k ≡ false → is_damaged as_is file k ≡ false
absent_sound as_is file k h = ap (λ (b : Bool). b && not (holds as_is file k)) h

pub none_damaged : (as_is : Bool) (file : File) (k : Descriptor) (damaged : Keys) → is_damaged as_is file k ≡ false → damaged ≡ damaged ++ filter (is_damaged as_is file) (k ∷ [])
none_damaged as_is file k damaged h = sym (append-nil damaged) ∙ ap (λ (b : Bool). damaged ++ cond b (k ∷ []) []) (sym h)

pub one_damaged : (as_is : Bool) (file : File) (k : Descriptor) (damaged : Keys) → is_damaged as_is file k ≡ true → damaged ++ k ∷ [] ≡ damaged ++ filter (is_damaged as_is file) (k ∷ [])
one_damaged as_is file k damaged h = ap (λ (b : Bool). damaged ++ cond b (k ∷ []) []) (sym h)

-- a fault that says so of the file of a key says that it is damaged
pub fault_damaged : (as_is : Bool) (dir : Device) (k : Descriptor) (e : LayoutFault) → as_is ≡ true → IsDamage e → dir.is_honest → IsStepFault as_is dir k e → is_damaged as_is dir.file k ≡ true
fault_damaged true dir k (fault.Corrupt named) is damage honest h = elim (h honest).1 [ inl wrong ↦ corrupt_damaged dir.file k wrong | inr cut ↦ cut_damaged dir.file k cut ]
fault_damaged true dir k (fault.BadManifest named e) is damage honest h = unread_damaged dir.file k e (h honest).1
fault_damaged true dir k rest is damage honest h = absurd damage
fault_damaged false dir k e is damage honest h = cc is

-- a fault of a manifest's file is one of its key
pub manifest_damage : (dir : Device) (k : Descriptor) (e : LayoutFault) → IsManifestFault dir (λ named. named ≡ k) e → IsDamageFault dir k e
manifest_damage dir k fault.Device h = h
manifest_damage dir k (fault.Corrupt named) h = λ honest. ((h honest).0, inl (subst (IsCorrupt dir.file) (h honest).0 (h honest).1))
manifest_damage dir k fault.Memory h = tt
manifest_damage dir k (fault.BadManifest named e) h = λ honest. ((h honest).0, subst (λ (j : Descriptor). IsUnread dir.file j e) (h honest).0 (h honest).1)
manifest_damage dir k rest h = absurd h

-- a fault of a step is one of its walk
pub step_fault : (as_is : Bool) (dir : Device) (k : Descriptor) (e : LayoutFault) → (IsDamage e → as_is ≡ false) → IsStepFault as_is dir k e → IsWalkFault as_is dir (λ named. named ≡ k) e
step_fault true dir k fault.Device strict h = record { cause = h; strict = strict }
step_fault true dir k (fault.Corrupt named) strict h = cc (strict tt)
step_fault true dir k fault.Memory strict h = record { cause = tt; strict = strict }
step_fault true dir k (fault.BadManifest named e) strict h = cc (strict tt)
step_fault true dir k rest strict h = absurd h
step_fault false dir k e strict h = record { cause = h; strict = strict }

-- a damaged key is not held
pub damaged_unheld : (as_is : Bool) (file : File) (k : Descriptor) → is_damaged as_is file k ≡ true → holds as_is file k ≡ false
damaged_unheld as_is file k h = not-true (holds as_is file k) (second_true (is_there file k) (not (holds as_is file k)) h)

-- ---- what is held is what the files list
pub held_listed : (as_is : Bool) (file : File) (visited : Keys) → held_in as_is file visited ≡ nodes_of (stored file (held_in as_is file visited))
held_listed as_is file [] = refl
held_listed as_is file (k ∷ visited) =
    elim (holds as_is file k) as (λ b. map (λ (x : Descriptor). (x, listed_in file x)) (cond b (k ∷ filter (holds as_is file) visited) (filter (holds as_is file) visited))
    ≡ nodes_of (stored file (map (λ (x : Descriptor). (x, listed_in file x)) (cond b (k ∷ filter (holds as_is file) visited) (filter (holds as_is file) visited))))) [
      | true ↦ ap (λ (g : List Node). (k, listed_in file k) ∷ g) (held_listed as_is file visited)
      | false ↦ held_listed as_is file visited
    ]

-- what holds of each visited key that is held, holds of each node
pub all_held : (G : Descriptor → Type 0) (as_is : Bool) (file : File) (visited : List Descriptor) → All (λ (k : Descriptor). holds as_is file k ≡ true → G k) visited → All (λ (n : Node). G n.0) (held_in as_is file visited)
all_held G as_is file [] h = All-nil (λ (n : Node). G n.0)
all_held G as_is file (x ∷ visited) h =
    let P : Descriptor → Type 0 = λ (k : Descriptor). holds as_is file k ≡ true → G k in
    let rest = all_held G as_is file visited (All-tail P x visited h) in
    elim (cases_Bool (holds as_is file x)) [
      | inl there ↦ rw there (All-cons (λ (n : Node). G n.0) (x, listed_in file x) (held_in as_is file visited) (All-head P x visited h there) rest)
      | inr gone ↦ rw gone rest
    ]

all_of : (G : Descriptor → Type 0) (each : (k : Descriptor) → G k) (ks : List Descriptor) → All G ks
all_of G each [] = All-nil G
all_of G each (k ∷ ks) = All-cons G k ks (each k) (all_of G each ks)

abbrev HasFile : File → Node → Type 0
HasFile file n = IsSome (file (blob_path n.0.digest))

-- each held key has a file
pub held_there : (as_is : Bool) (file : File) (visited : Keys) → All (HasFile file) (held_in as_is file visited)
held_there as_is file visited =
    let P : Descriptor → Type 0 = λ (k : Descriptor). holds as_is file k ≡ true → IsSome (file (blob_path k.digest)) in
    all_held (λ (k : Descriptor). IsSome (file (blob_path k.digest))) as_is file visited (all_of P (there_held as_is file) visited)

-- what was opened is sound where its files match their keys
leaf_reads : (bytes : List ℕ) → IsOk (successors_of Leaf bytes)
unfolding successors_of
leaf_reads bytes = refl

pub leaf_or : (kind : Kind) → (kind ≡ Leaf) ⊎ (kind ≢ Leaf)
leaf_or Image = inr (λ e. cc e)
leaf_or Index = inr (λ e. cc e)
leaf_or DockerImage = inr (λ e. cc e)
leaf_or DockerList = inr (λ e. cc e)
leaf_or Artifact = inr (λ e. cc e)
leaf_or Leaf = inl refl

reads_at : (file : File) (k : Descriptor) (bytes : List ℕ) → IsGood file k → file (blob_path k.digest) ≡ Some bytes → IsOk (succ_of k bytes)
reads_at file k bytes good there =
    elim (leaf_or (kind_of k.media_type)) [
      | inl leaf ↦ subst (λ (kind : Kind). IsOk (successors_of kind bytes)) (sym leaf) (leaf_reads bytes)
      | inr manifest ↦ let g = good manifest bytes there in rw g.1.1 refl
    ]

abbrev FileMatches : File → Node → Type 0
FileMatches file n = (bytes : List ℕ) × (file (blob_path n.0.digest) ≡ Some bytes) × Matches n.0 bytes

abbrev GoodNode : File → Node → Type 0
GoodNode file n = IsGood file n.0

stored_is : (file : File) (n : Node) (bytes : List ℕ) → file (blob_path n.0.digest) ≡ Some bytes → bytes ≡ blob_at file n.0.digest
stored_is file n bytes there = sym (ap (λ (o : Option (List ℕ)). unwrap_or o []) there)

abbrev EntryMatches : Entry → Type 0
EntryMatches e = Matches e.0 e.1

abbrev EntryReads : Entry → Type 0
EntryReads e = IsOk (succ_of e.0 e.1)

all_match : (file : File) (graph : List Node) → HasMatchingFiles file graph → All EntryMatches (stored file graph)
all_match file [] h = All-nil EntryMatches
all_match file (n ∷ graph) h =
    let first = All-head (FileMatches file) n graph h in
    All-cons EntryMatches (n.0, blob_at file n.0.digest) (stored file graph)
    (subst (λ (bytes : List ℕ). Matches n.0 bytes) (stored_is file n first.0 first.1) first.2) (all_match file graph (All-tail (FileMatches file) n graph h))

all_read : (file : File) (graph : List Node) → HasMatchingFiles file graph → All (GoodNode file) graph → All EntryReads (stored file graph)
all_read file [] h good = All-nil EntryReads
all_read file (n ∷ graph) h good =
    let first = All-head (FileMatches file) n graph h in
    All-cons EntryReads (n.0, blob_at file n.0.digest) (stored file graph)
    (subst (λ (bytes : List ℕ). IsOk (succ_of n.0 bytes)) (stored_is file n first.0 first.1) (reads_at file n.0 first.0 (All-head (GoodNode file) n graph good) first.1))
    (all_read file graph (All-tail (FileMatches file) n graph h) (All-tail (GoodNode file) n graph good))

pub IsSound-opened : (H : Type 0) (as_is : Bool) (file : File) (starts : Keys) (graph : List Node) → H → HasDistinctKeys graph → HasWalked as_is file starts graph → HasMatchingFiles file graph → IsSound H file graph
IsSound-opened H as_is file starts graph honest distinct w matching = record {
  is_honest = honest;
  are_there = subst (λ (g : List Node). All (HasFile file) g) (sym w.held) (held_there as_is file w.visited);
  content = record {
    distinct = subst (λ (ks : List Descriptor). IsDistinct same_key ks) (keys_of-stored file graph) distinct;
    matching = all_match file graph matching;
    readable = all_read file graph matching (subst (λ (g : List Node). All (GoodNode file) g) (sym w.held) (all_held (IsGood file) as_is file w.visited w.good));
  };
  listed = subst (λ (g : List Node). g ≡ nodes_of (stored file g)) (sym w.held) (held_listed as_is file w.visited);
}

-- the key at the end of what was visited is the next one
pub IsNextVisited-at : (file : File) (starts keys : Keys) (i : ℕ) (k : Descriptor) → IsWalking false file starts keys i → All (λ (x : Descriptor). holds false file x ≡ true → IsGood file x) (take i keys) → slice_get keys i ≡ Some k → IsNextVisited file starts k
IsNextVisited-at file starts keys i k h good at = record {
  earlier = take i keys;
  visiting = next h.visiting (next_is false file starts keys i h ∙ at);
  good = All-weaker (λ (x : Descriptor). holds false file x ≡ true → IsGood file x) (IsGood file) (λ x g other bytes there. g (ap is_some there) other bytes there) (take i keys) good;
}
