-- A place that is corrected takes the new volume; another goes last.
use Rattle.std.proofs.Common.{◌≡◌, ℕ, ◌<◌, ◌≤◌, true, false, length, set, get_or, sym, refl, ap, ◌∙◌, inl, inr, ⊎_elim, arith}
use Rattle.std.specs.List.{refill}
use Rattle.std.proofs.lemmas.List.{length-map}
use Rattle.std.proofs.lemmas.Bool.Decides.{nat_tests}
use Rattle.std.proofs.lemmas.Bool.{cond-true, cond-false}
use Rattle.books.specs.declared.corrections.Correction.{Correction}
use Rattle.books.specs.Layers.{among}
use Rattle.books.proofs.Marks.{places, noted, hit, missing, among_hit, among_missing, at_volume_of, noted_set, places_set, noted_push, places_push, refill_set}
use Rattle.books.proofs.corrections.Corrections.note.Goals as goal

pub returns-in-Some : goal.returns-in-Some
returns-in-Some c =
    let es = c.args.self.now.entries.items in
    let i = c.in-Some.i in
    let h = hit c.args.place es i c.in-Some.ensures.value in
    let a : among c.args.place (places es) ≡ true = among_hit c.args.place es i h in
    let d : Correction = record { place = 0; volume = 0 } in
    let all = ap (λ ws. refill (length es) es (set ws i (at_volume_of (get_or ws i d) c.args.volume))) c.deref_mut.ensures.value ∙ refill_set es i _ in
    record {
      cases = record {
        room = inl a;
        places = ap places all ∙ places_set c.args.volume es i d ∙ sym (cond-true _ _ _ a);
        volumes = λ q. ap (noted q) all ∙ noted_set c.args.place c.args.volume q es i d h;
      };
    }

pub returns-then-is_full : goal.returns-then-is_full
returns-then-is_full c =
    let es = c.args.self.now.entries.items in
    let a : among c.args.place (places es) ≡ false = among_missing c.args.place es (missing c.args.place es c.in_default.ensures.value) in
    let f = c.if-is_full.ensures.value in
    let l : length es ≡ 32 = grind (arith, nat_tests) in
    let n : 32 ≤ length (places es) = simp length-map (omega arith) in
    record {
      cases = record {
        room = ⊎_elim (λ e. let z : ◌≡◌ {A = ℕ} 0 1 = cc in omega arith) (λ l. omega arith);
        value = refl;
        same = refl;
      };
    }

pub returns : goal.returns
returns c =
    let es = c.args.self.now.entries.items in
    let m = missing c.args.place es c.in_default.ensures.value in
    let a : among c.args.place (places es) ≡ false = among_missing c.args.place es m in
    let f = c.if-is_full.ensures in
    let l : length es < 32 = grind (arith, nat_tests) in
    let n : length (places es) < 32 = simp length-map (omega arith) in
    record {
      cases = record {
        room = inr n;
        places = ap places c.push.ensures.items ∙ places_push es _ ∙ sym (cond-false _ _ _ a);
        volumes = λ q. ap (noted q) c.push.ensures.items ∙ noted_push c.args.place c.args.volume q es m;
      };
    }
