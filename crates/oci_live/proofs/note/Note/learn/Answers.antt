use Rattle.std.proofs.Common.{◌≡◌, ◌≤◌, ◌∙◌, inl, inr, refl, sym, ap, subst, arith, length, List}
use mathlib.Core.List.{IsPrefix}
use Rattle.oci_store.specs.Content.{Entry}
use Rattle.oci_live.specs.History.{name_of}
use Rattle.oci_live.specs.Live.{Beginning}
use Rattle.oci_live.proofs.Prefixes.{prefix_self, prefix_shorter}
use Rattle.oci_live.proofs.note.Note.learn.Goals as goal

pub returns-then-self-note : goal.returns-then-self-note
returns-then-self-note c =
    let both = c.learn.new.self.log in
    let old = c.self.inside.witness.log in
    let new = c.note.inside.witness.log in
    let this : IsPrefix old both = subst (λ (l : List Entry). IsPrefix l both) (ap (λ s. s.log) c.again-both.ensures) c.learn.ensures.2 in
    let less : length old ≤ length new = omega (arith, c.self.invariant.len, c.note.invariant.len) in
    let named : name_of c.again.result.book ≡ name_of c.note.inside.witness.book = ap (λ s. name_of s.book) c.again.ensures in
    let listed : c.again.result.log ≡ new = ap (λ s. s.log) c.again.ensures in
    let is : new ≡ c.args.note.now.entries = ap (λ (b : Beginning). b.entries) c.note.view_is in
    record {
      name = named ∙ (ap (λ (b : Beginning). b.name) c.note.view_is ∙ sym c.requires.name);
      one = inr (listed ∙ is);
      later = rw (c.again.ensures, ← c.self.view_is) (prefix_shorter {A = Entry} old new both this c.learn.ensures.3 less);
      told = rw (c.again.ensures, ← c.note.view_is) (prefix_self {A = Entry} new);
    }

pub returns : goal.returns
returns c =
    let both = c.learn.new.self.log in
    let old = c.self.inside.witness.log in
    let new = c.note.inside.witness.log in
    let this : IsPrefix old both = subst (λ (l : List Entry). IsPrefix l both) (ap (λ s. s.log) c.again-both.ensures) c.learn.ensures.2 in
    let less : length new ≤ length old = omega (arith, c.self.invariant.len, c.note.invariant.len) in
    record {
      name = rw (← c.self.view_is) refl;
      one = inl (rw (← c.self.view_is) refl);
      later = rw (← c.self.view_is) (prefix_self {A = Entry} old);
      told = rw (← c.self.view_is, ← c.note.view_is) (prefix_shorter {A = Entry} new old both c.learn.ensures.3 this less);
    }
