-- The calls along a chain make a history, so what is written of them is true of its routes.
use Rattle.std.proofs.Common.{◌≡◌, ℕ, suc, ◌+◌, ◌<◌, ◌⊎◌, List, [], ◌∷◌, ◌++◌, map, length, Some, Ok, Err, Option, Result, sym, refl, ap, ◌∙◌, subst, inl, inr, append_assoc, arith, None}
use Rattle.std.specs.Option.{ok_or}
use Rattle.std.specs.List.{slice_get}
use Rattle.weights.specs.Algebra.{Algebra, Laws}
use Rattle.carriers.specs.Carrier.{Carrier}
use Rattle.carriers.specs.declared.refusals.Refusal.{Refusal}
use Rattle.carriers.specs.declared.refusals.Refusal.TheVariants as refusals
use Rattle.stepping.specs.declared.Label.{Label}
use Rattle.stepping.specs.Labels.{Labels}
use Rattle.stepping.proofs.Places.{none_some, some_same}
use Rattle.histories.specs.declared.Ending.{Ending}
use Rattle.histories.specs.declared.Item.{Item}
use Rattle.histories.specs.Stages.{Stage, idle, After, refused}
use Rattle.histories.specs.Lists.{on_item}
use Rattle.histories.specs.Calls.{on_open, on_cross, on_finish}
use Rattle.histories.specs.Histories.{to_open, to_cross, to_finish, Log, State, left, History, new, over, own, last_open, chain, last_finish, when_finished, phase_told}
use Rattle.histories.specs.Promise.{Query, Found, Routed, weights}
use Rattle.histories.proofs.Promise.{finished_as_told}
use Rattle.books.specs.ChainLayout.{Contents}
use Rattle.listing.specs.Calls.{go_on, travel, along, calls}
use Rattle.listing.specs.Texts.{refused_text, answer_text, after_text}
use Rattle.listing.specs.Found.{then_if, items_from, found_at}
use Rattle.listing.specs.Truth.{query, Says, none, routes, ListedTruly}

-- a call that answered, or was refused
go_on_cases : {V X Y : Type 0} (P : After V Y → Type 0) (a : After V X) (next : Stage V → List (Label V) → After V Y)
    → ((x : X) → a.answer ≡ Ok x → P (next a.stage a.labels))
    → ((r : Refusal) → P (refused a.stage a.labels r))
    → P (go_on a next)
go_on_cases P a next f h =
    (elim a.answer as (λ o. a.answer ≡ o → P (go_on (record { stage = a.stage; labels = a.labels; answer = o }) next)) [
      | Ok x ↦ λ e. f x e
      | Err r ↦ λ e. h r
    ])
    refl

module _ (A : Algebra) (g : List ℕ → Carrier A.Weight) (v : ℕ) where
  -- the history of calls that ended with a finish at v, which answered e
  record Ended (cs : List (Carrier A.Weight)) (o : Option (A.Weight × ℕ)) (e : Ending) (r : State A.Weight) : Type 0 where
    pub log : Log A.Weight
    pub history : History A log r
    pub phase : phase_told log ≡ when_finished
    pub carriers : chain log ≡ cs
    pub opening : last_open log ≡ o
    pub ending : last_finish log ≡ Some (v, e)

  abbrev IfEnded : List (Carrier A.Weight) → Option (A.Weight × ℕ) → After A.Weight Ending → Type 0
  IfEnded cs o a = (e : Ending) → a.answer ≡ Ok e → Ended cs o e (left a)

  travelled : (b : List ℕ) (bs : List (List ℕ)) (log : Log A.Weight) (r : State A.Weight) → History A log r
      → IfEnded (chain log ++ map g (b ∷ bs)) (last_open log) (travel A g v b bs r.stage r.labels)
  travelled b [] log r h e q =
      let c = to_finish (g b) v in
      let a = on_finish A r.stage (g b) v r.labels in
      record {
        log = (c, Ok e) ∷ log;
        history = subst (λ x. History A ((c, x) ∷ log) (left a)) q (own c h);
        phase = refl;
        carriers = refl;
        opening = refl;
        ending = refl;
      }
  travelled b (d ∷ ds) log r h e q =
      let c = to_cross (g b) in
      let a = on_cross A r.stage (g b) r.labels in
      go_on_cases (IfEnded (chain log ++ map g (b ∷ d ∷ ds)) (last_open log)) a (λ s m. travel A g v d ds s m)
      (λ n y.
      let it : IfEnded ((chain log ++ g b ∷ []) ++ map g (d ∷ ds)) (last_open log) (travel A g v d ds a.stage a.labels) =
      travelled d ds ((c, Ok n) ∷ log) (left a) (subst (λ x. History A ((c, x) ∷ log) (left a)) y (own c h)) in
      subst
      (λ cs. IfEnded cs (last_open log) (travel A g v d ds a.stage a.labels))
      (append_assoc (chain log) (g b ∷ []) (map g (d ∷ ds)))
      it)
      (λ w f y. absurd (cc y))
      e
      q

  gone_along : (bs : List (List ℕ)) (log : Log A.Weight) (r : State A.Weight) → History A log r
      → IfEnded (chain log ++ map g bs) (last_open log) (along A g v bs r.stage r.labels)
  gone_along [] log r h e q = absurd (cc q)
  gone_along (b ∷ bs) log r h e q = travelled b bs log r h e q

module _ (A : Algebra) (g : List ℕ → Carrier A.Weight) (b : A.Weight) (c : Contents) (m : Labels A) where
  called : IfEnded A g c.source (map g c.books) (Some (b, c.destination)) (calls A g b c idle m)
  called =
      let o = on_open A idle b c.destination m in
      go_on_cases
      (IfEnded A g c.source (map g c.books) (Some (b, c.destination)))
      o
      (λ s l. along A g c.source c.books s l)
      (λ u q.
      gone_along A g c.source c.books ((to_open b c.destination, Ok tt) ∷ []) (left o)
      (over b c.destination m new q))
      (λ w e q. absurd (cc q))

-- the items from the k-th on
items_are : {V : Type 0} (s : Stage V) (v : ℕ) (m : List (Label V)) (its : List (Item V)) (k : ℕ)
    → ((j : ℕ) → on_item s v (k + j) m ≡ ok_or (slice_get its j) refusals.Key)
    → items_from s v m (length its) k ≡ Ok its
items_are s v m [] k h = refl
items_are s v m (it ∷ its) k h =
    let rest = items_are s v m its (suc k) (λ j. grind (arith, h (suc j))) in
    grind (arith, h 0, rest)

-- what is written of the routes that a finish answered with
module _ (A : Algebra) (t : A.Weight → List ℕ) (q : Query A) (r : State A.Weight) (found : Found A q r) where
  -- a list without items has no route
  some_listed : (its : List (Item A.Weight)) → found.listed ≡ its → (((x : A.Weight) → Routed A q x → ⊥) → ⊥)
      → 0 < length its
  some_listed [] e h =
      absurd
      (h
      (λ x r.
      let it = found.front.complete x r in
      none_some it.1 (sym (ap (λ ls. slice_get (weights ls) it.0) e) ∙ it.2)))
  some_listed (i ∷ its) e h = omega arith

  said : (o : Option ℕ) → (o ≡ None → (x : A.Weight) → Routed A q x → ⊥)
      → (((x : A.Weight) → Routed A q x → ⊥) → o ≡ None)
      → ((o ≡ None → ⊥) → o ≡ Some (length found.listed))
      → Says A t q (answer_text t (found_at r.stage q.source r.labels o))
  said None n c l = none (n refl) refl
  said (Some k) n c l =
      let other : Some k ≡ None → ⊥ = λ z. none_some k (sym z) in
      let is = some_same k (length found.listed) (l other) in
      routes found.listed (some_listed found.listed refl (λ h. other (c h))) found.front found.only
      (let items = items_are r.stage q.source r.labels found.listed 0 (λ j. grind (arith, found.items j)) in
      cc (is, items))

same_query : (A : Algebra) (p q : Query A) → p.chain ≡ q.chain → p.bounds ≡ q.bounds → p.destination ≡ q.destination
    → p.source ≡ q.source → p ≡ q
same_query A p q c b d s =
    let same : ◌≡◌ {A = Query A} (record { chain = p.chain; bounds = p.bounds; destination = p.destination; source = p.source }) (record { chain = q.chain; bounds = q.bounds; destination = q.destination; source = q.source }) = cc in
    same

pub listed_truly : (A : Algebra) → Laws A → ListedTruly A
listed_truly A laws g b c m t =
    let a = calls A g b c idle m in
    let written : Result Ending Refusal → List ℕ = λ o. answer_text t (then_if o (λ e. found_at a.stage c.source a.labels e.routes)) in
    (elim a.answer as
    (λ o. a.answer ≡ o → ((r : Refusal) × (a.answer ≡ Err r) × (after_text t c.source a ≡ refused_text r)) ⊎ Says A t (query A g b c) (after_text t c.source a)) [
      | Ok e ↦ λ q.
          let it = called A g b c m e q in
          let p = finished_as_told A laws it.log (left a) it.history it.phase in
          let opening : ◌≡◌ {A = A.Weight × ℕ} (p.query.bounds, p.query.destination) (b, c.destination) =
          some_same _ _ (sym p.open_was ∙ it.opening) in
          let finish : ◌≡◌ {A = ℕ × Ending} (p.query.source, p.ending) (c.source, e) =
          some_same _ _ (sym p.finish_was ∙ it.ending) in
          let same = same_query A p.query (query A g b c) (sym p.chain_was ∙ it.carriers) (ap (λ x. x.0) opening) (ap (λ x. x.1) opening) (ap (λ x. x.0) finish) in
          let text : answer_text t (found_at a.stage p.query.source a.labels p.ending.routes) ≡ after_text t c.source a =
          ap (λ x. answer_text t (found_at a.stage x.0 a.labels x.1.routes)) finish ∙ sym (ap written q) in
          inr
          (subst
          (λ x. Says A t x (after_text t c.source a))
          same
          (subst (Says A t p.query) text (said A t p.query (left a) p.found p.ending.routes p.none_so p.none_then p.number)))
      | Err r ↦ λ q. inl (r, q, ap written q)
    ])
    refl
