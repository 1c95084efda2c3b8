-- What a crossing adds to a request: a layer, if its run ended, and nothing if the memory is full.
use Rattle.std.proofs.Common.{◌≡◌, ℕ, ◌+◌, ◌-◌, ◌≤◌, Bool, List, [], ◌∷◌, ◌++◌, length, take, drop, sym, ap, ◌∙◌, subst, append_assoc, arith, length-append, length-drop}
use lib.ListN.{length-replicate}
use lib.Seq.{take-append_seam, drop-append-add}
use Rattle.std.proofs.lemmas.List.{drop-replicate}
use Rattle.weights.specs.Algebra.{Algebra, Laws}
use Rattle.carriers.specs.Carrier.{Carrier}
use Rattle.stepping.specs.Labels.{Labels, blank}
use Rattle.stepping.specs.Crossing.{done, crossing}
use Rattle.stepping.proofs.Ended.{domain_theorem}
use Rattle.stepping.proofs.Room.{room_theorem}
use Rattle.histories.specs.Runs.{used}
use Rattle.histories.specs.Stages.{Progress}
use Rattle.histories.specs.Crossings.{outcome, with_run, written, blanks, cleared}
use Rattle.histories.proofs.Layers.{Layer, flat, view_on, used_spans}
use Rattle.histories.proofs.Views.{view_same}
use Rattle.histories.proofs.Standing.{Built}

module _
    (A : Algebra) (laws : Laws A) (cs : List (Carrier A.Weight)) (p : Progress A.Weight) (m : Labels A)
    (ls : List (Layer A.Weight))
    (h : Built A cs p m ls)
  where
    pub used_is : used p.runs ≡ length (flat ls)
    used_is = ap used h.runs_are ∙ used_spans ls

    in_use : take (used p.runs) m ≡ flat ls
    in_use =
        ap (λ n. take n m) used_is
        ∙ (ap (take (length (flat ls))) h.memory_is ∙ take-append_seam (flat ls) h.rest)

    length_memory : length m ≡ length (flat ls) + length h.rest
    length_memory = ap length h.memory_is ∙ length-append (flat ls) h.rest

    -- the labels that are not in use are blank already
    pub cleared_same : cleared A (used p.runs) m ≡ m
    cleared_same =
        let u = used_is in
        let n = length_memory in
        let free : length m - used p.runs ≡ length h.rest = omega arith in
        ap (λ z. z ++ blanks A (length m - used p.runs)) in_use
        ∙ (ap (λ z. flat ls ++ blanks A z) free ∙ (ap (λ z. flat ls ++ z) (sym h.rest_is) ∙ sym h.memory_is))

    module _ (c : Carrier A.Weight) (marks : ℕ → Bool) (run : Labels A) where
      abbrev after : Labels A
      after = drop (used p.runs + length run) m

      after_blank : after ≡ blanks A (length after)
      after_blank =
          let to : after ≡ drop (length run) h.rest =
          ap (λ z. drop (z + length run) m) used_is
          ∙ (ap (drop (length (flat ls) + length run)) h.memory_is ∙ drop-append-add (flat ls) h.rest (length run)) in
          let blanked : after ≡ blanks A (length h.rest - length run) =
          to ∙ (ap (drop (length run)) h.rest_is ∙ drop-replicate (length run) (length h.rest) (blank A.neutral)) in
          blanked ∙ ap (blanks A) (sym (ap length blanked ∙ length-replicate _ (blank A.neutral)))

      written_is : written (used p.runs) m run ≡ (flat ls ++ run) ++ after
      written_is = ap (λ z. z ++ (run ++ after)) in_use ∙ sym (append_assoc (flat ls) run after)

      -- a crossing that ended adds a layer
      pub grown : outcome A p c marks m ≡ done run → c.places ≤ 8192
          → Built A (cs ++ c ∷ [])
          (with_run p (length run))
          (written (used p.runs) m run)
          (record { carrier = c; marks = marks; run = run } ∷ ls)
      grown e n =
          let V = view_on A p.bounds p.destination c marks ls in
          let free = length m - used p.runs in
          let q : crossing A V free ≡ done run =
          subst (λ v. crossing A v free ≡ done run) (view_same A p c marks ls m h.rest h.runs_are h.memory_is) e in
          let room : length run ≤ free = (room_theorem A V free run q).0 in
          let u = used_is in
          let k = length_memory in
          let g = h.length_is in
          let w = ap length written_is in
          let l1 = length-append (flat ls ++ run) after in
          let l2 = length-append (flat ls) run in
          let l3 = length-drop (used p.runs + length run) m in
          record {
            rest = after;
            rest_is = after_blank;
            chain_is = ap (λ z. z ++ c ∷ []) h.chain_is;
            runs_are = ap (λ z. record { start = z; length = length run } ∷ p.runs) u
                ∙ ap (λ z. record { start = length (flat ls); length = length run } ∷ z) h.runs_are;
            memory_is = written_is;
            length_is = omega arith;
            stacked = (record { ended = domain_theorem A laws V free run q; narrow = n }, h.stacked);
          }
