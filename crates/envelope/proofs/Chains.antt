-- The path is one list alone, the steps that open.
use Rattle.std.proofs.Common.{◌≡◌, ℕ, zero, suc, ◌+◌, ◌<◌, ◌≤◌, cond, eqb, leb, ◌≢◌, ◌⊎◌, List, [], ◌∷◌, ◌++◌, Some, None, Option, sym, refl, ap, ◌∙◌, subst, ap₂, inl, inr, append_assoc, arith}
use Rattle.std.proofs.lemmas.Bool.{cases_lt, cases_eq, eq-eqb, ne_eqb, cond-true, cond-false, le-leb, lt-leb}
use Rattle.envelope.specs.declared.Step.{Step}
use Rattle.envelope.specs.Path.{path_at, begun_at, begins_at, steps_below, path_steps, Cheapest, or_later, reached, read, Rising, Path, largest_penalty}
use Rattle.envelope.specs.Next.{Holds}
use Rattle.envelope.specs.Theorems.{OnePath}
use Rattle.envelope.proofs.Named.{path_names_cheapest, clash, some_same, step_same}
use Rattle.envelope.proofs.Along.{still, onward, first, never}

abbrev at : ℕ → Step → Step
at p s = record { penalty = p; count = s.count; loss = s.loss }

or_later_twice : (s t : Step) (o : Option Step) → or_later s (or_later t o) ≡ or_later t o
or_later_twice s t None = refl
or_later_twice s t (Some u) = refl

reached_here : (p : ℕ) (s : Step) (ss : List Step) → s.penalty ≤ p → reached p (s ∷ ss) ≡ or_later s (reached p ss)
reached_here p s ss h = cond-true (leb s.penalty p) _ _ (le-leb _ _ h)

reached_past : (p : ℕ) (s : Step) (ss : List Step) → p < s.penalty → reached p (s ∷ ss) ≡ None
reached_past p s ss h = cond-false (leb s.penalty p) _ _ (lt-leb _ _ h)

module _ (losses : ℕ → Option ℕ) (n : ℕ) where
  abbrev pub Chain : Step → ℕ → List Step → Type 0
  Chain s to [] = (s.penalty < to) × Holds losses n s to
  Chain s to (t ∷ ts) = (s.penalty < t.penalty) × Holds losses n s t.penalty × (s.count ≢ t.count) × Chain t to ts

  chain_below : (s : Step) (to : ℕ) (ss : List Step) → Chain s to ss → s.penalty < to
  chain_below s to [] h = h.0
  chain_below s to (t ∷ ts) h = let k : t.penalty < to = chain_below t to ts h.3 in omega arith

  chain_first : (s : Step) (to : ℕ) (ss : List Step) → Chain s to ss → path_at losses s.penalty n ≡ Some s
  chain_first s to [] h = h.1 s.penalty (omega arith) h.0
  chain_first s to (t ∷ ts) h = h.1 s.penalty (omega arith) h.0

  walk : (pre : List Step) (s : Step) (to : ℕ) (ss : List Step) → Chain s to ss → steps_below losses n (suc s.penalty) ≡ pre ++ s ∷ [] → steps_below losses n to ≡ pre ++ s ∷ ss
  walk pre s to [] h e = still losses n s to to h.1 h.0 (omega arith) ∙ e
  walk pre s to (t ∷ ts) h e =
      walk (pre ++ s ∷ []) t to ts h.3 (onward losses n s t h.1 h.0 (chain_first t to ts h.3) h.2 ∙ ap (λ x. x ++ t ∷ []) e) ∙ append_assoc pre (s ∷ []) (t ∷ ts)

  -- the canonical steps that name the path are a chain
  to_chain : (s : Step) (ss : List Step) → s.penalty ≤ largest_penalty → Rising s ss → ((p : ℕ) → s.penalty ≤ p → p ≤ largest_penalty → read p (reached p (s ∷ ss)) ≡ path_at losses p n) → Chain s (largest_penalty + 1) ss
  to_chain s [] b r h = (omega arith, λ p l k. sym (h p l (omega arith)) ∙ ap (read p) (reached_here p s [] l))
  to_chain s (t ∷ ts) b r h = (
    r.0,
    (λ p l k. sym (h p l (omega arith)) ∙ ap (read p) (reached_here p s (t ∷ ts) l ∙ ap (or_later s) (reached_past p t ts k))),
    r.2,
    to_chain t ts r.1 r.3
        (λ p l k. ap (read p) (reached_here p t ts l ∙ sym (or_later_twice s t (reached p ts)) ∙ ap (or_later s) (sym (reached_here p t ts l)) ∙ sym (reached_here p s (t ∷ ts) (omega arith))) ∙ h p (omega arith) k),
  )

  from_chain_rising : (s : Step) (ss : List Step) → Chain s (largest_penalty + 1) ss → Rising s ss
  from_chain_rising s [] h = tt
  from_chain_rising s (t ∷ ts) h = let k : t.penalty < largest_penalty + 1 = chain_below t (largest_penalty + 1) ts h.3 in (h.0, omega arith, h.2, from_chain_rising t ts h.3)

  from_chain_names : (s : Step) (to : ℕ) (ss : List Step) → Chain s to ss → (p : ℕ) → s.penalty ≤ p → p < to → read p (reached p (s ∷ ss)) ≡ path_at losses p n
  from_chain_names s to [] h p l k = ap (read p) (reached_here p s [] l) ∙ sym (h.1 p l k)
  from_chain_names s to (t ∷ ts) h p l k = go (cases_lt p t.penalty) (λ b. from_chain_names t to ts h.3 p b k)
    where
      go : (p < t.penalty) ⊎ (t.penalty ≤ p) → (t.penalty ≤ p → read p (reached p (t ∷ ts)) ≡ path_at losses p n) → read p (reached p (s ∷ t ∷ ts)) ≡ path_at losses p n
      go (inl b) rec = ap (read p) (reached_here p s (t ∷ ts) l ∙ ap (or_later s) (reached_past p t ts b)) ∙ sym (h.1 p l b)
      go (inr b) rec =
          ap (read p) (reached_here p s (t ∷ ts) l ∙ ap (or_later s) (reached_here p t ts b) ∙ or_later_twice s t (reached p ts) ∙ sym (reached_here p t ts b))
          ∙ rec b

  -- the steps that open are a chain
  pub settled : (q : ℕ) (s t : Step) → path_at losses q n ≡ Some (at q s) → path_at losses (suc q) n ≡ Some t → s.count ≡ t.count → path_at losses (suc q) n ≡ Some (at (suc q) s)
  settled q s t a e c =
      let u : Cheapest losses n q (at q s) = ((path_names_cheapest losses n q).some (at q s)).0 a in
      let v : Cheapest losses n (suc q) t = ((path_names_cheapest losses n (suc q)).some t).0 e in
      e ∙ ap Some (step_same t (at (suc q) s) v.penalty_is (sym c) (some_same (losses t.count) t.loss s.loss v.held (ap losses (sym c) ∙ u.held)))

  extend : (q : ℕ) (t : Step) → path_at losses (suc q) n ≡ Some t → (s : Step) (ss : List Step) → Chain s (suc q) ss → Chain s (suc (suc q)) (ss ++ begins_at losses n (suc q))
  extend q t e s (u ∷ us) h = (h.0, h.1, h.2, extend q t e u us h.3)
  extend q t e s [] h =
      let a : path_at losses q n ≡ Some (at q s) = h.1 q (omega arith) (omega arith) in
      subst (Chain s (suc (suc q))) (sym (ap₂ begun_at a e)) (go (cases_eq s.count t.count) a)
    where
      go : (s.count ≡ t.count) ⊎ (s.count ≡ t.count → ⊥) → path_at losses q n ≡ Some (at q s) → Chain s (suc (suc q)) (cond (eqb s.count t.count) [] (t ∷ []))
      go (inl c) a =
          subst (Chain s (suc (suc q))) (sym (cond-true (eqb s.count t.count) [] (t ∷ []) (eq-eqb _ _ c)))
          (omega arith, λ p l k. more p l (cases_lt p (suc q)) k)
        where
          more : (p : ℕ) → s.penalty ≤ p → (p < suc q) ⊎ (suc q ≤ p) → p < suc (suc q) → path_at losses p n ≡ Some (at p s)
          more p l (inl b) k = h.1 p l b
          more p l (inr b) k = let z : suc q ≡ p = omega arith in subst (λ (p : ℕ). path_at losses p n ≡ Some (at p s)) z (settled q s t a e c)
      go (inr c) a =
          let z : t.penalty ≡ suc q = (((path_names_cheapest losses n (suc q)).some t).0 e).penalty_is in
          subst (Chain s (suc (suc q))) (sym (cond-false (eqb s.count t.count) [] (t ∷ []) (ne_eqb _ _ c))) (
            omega arith,
            (λ p l k. h.1 p l (omega arith)),
            c,
            (omega arith, λ p l k. let y : t.penalty ≡ p = omega arith in subst (λ (p : ℕ). path_at losses p n ≡ Some (at p t)) y (subst (λ (p : ℕ). path_at losses p n ≡ Some t) (sym z) e)),
          )

  pub present_on : (s : Step) → path_at losses 0 n ≡ Some s → (p : ℕ) (o : Option Step) → path_at losses p n ≡ o → (t : Step) × (path_at losses p n ≡ Some t)
  present_on s e p (Some t) f = (t, f)
  present_on s e p None f =
      let u : Cheapest losses n 0 s = ((path_names_cheapest losses n 0).some s).0 e in
      clash (losses s.count) s.loss u.held ((path_names_cheapest losses n p).none.0 f s.count u.below)

  absent_on : path_at losses 0 n ≡ None → (p : ℕ) → path_at losses p n ≡ None
  absent_on e p = (path_names_cheapest losses n p).none.1 ((path_names_cheapest losses n 0).none.0 e)

  pub chained : (s : Step) → path_at losses 0 n ≡ Some s → (q : ℕ) → (ss : List Step) × (steps_below losses n (suc q) ≡ s ∷ ss) × Chain s (suc q) ss
  unfolding steps_below
  chained s e zero =
      let z : s.penalty ≡ 0 = (((path_names_cheapest losses n 0).some s).0 e).penalty_is in
      ([], ap (begun_at None) e, (omega arith, λ p l k. let y : s.penalty ≡ p = omega arith in subst (λ (p : ℕ). path_at losses p n ≡ Some (at p s)) y (subst (λ (p : ℕ). path_at losses p n ≡ Some s) (sym z) e)))
  chained s e (suc q) =
      let r : (ss : List Step) × (steps_below losses n (suc q) ≡ s ∷ ss) × Chain s (suc q) ss = chained s e q in
      let t : (t : Step) × (path_at losses (suc q) n ≡ Some t) = present_on s e (suc q) (path_at losses (suc q) n) refl in
      (r.0 ++ begins_at losses n (suc q), ap (λ x. x ++ begins_at losses n (suc q)) r.1, extend q t.0 t.1 s r.0 r.2)

  -- ---- both ways
  abbrev Only : Option Step → List Step → Type 0
  Only o ss = (path_at losses 0 n ≡ o) → Path losses n ss → ss ≡ path_steps losses n

  only : (o : Option Step) (ss : List Step) → Only o ss
  only None [] e h = sym (never losses n (absent_on e) (largest_penalty + 1))
  only None (s ∷ ss) e h =
      let r : reached 0 (s ∷ ss) ≡ or_later s (reached 0 ss) = reached_here 0 s ss (omega (arith, h.canonical.0)) in
      some_read s (reached 0 ss) (sym (ap (read 0) r) ∙ h.names 0 (omega arith) ∙ e)
    where
      some_read : {X : Type 0} (s : Step) (o : Option Step) → read 0 (or_later s o) ≡ None → X
      some_read s None f = clash (read 0 (or_later s None)) (at 0 s) refl f
      some_read s (Some t) f = clash (read 0 (or_later s (Some t))) (at 0 t) refl f
  only (Some s) [] e h = clash (path_at losses 0 n) s e (sym (h.names 0 (omega arith)))
  only (Some s) (t ∷ ts) e h =
      let z : t.penalty ≡ 0 = h.canonical.0 in
      let c : Chain t (largest_penalty + 1) ts = to_chain t ts (omega arith) h.canonical.1 (λ p l k. h.names p k) in
      let f : path_at losses 0 n ≡ Some t = subst (λ (p : ℕ). path_at losses p n ≡ Some t) z (chain_first t (largest_penalty + 1) ts c) in
      sym (walk [] t (largest_penalty + 1) ts c (first losses n t f))

  is_path : (o : Option Step) → path_at losses 0 n ≡ o → Path losses n (path_steps losses n)
  is_path None e = subst (Path losses n) (sym (never losses n (absent_on e) (largest_penalty + 1))) (record { names = λ p l. sym (absent_on e p); canonical = tt })
  is_path (Some s) e =
      let r : (ss : List Step) × (steps_below losses n (suc largest_penalty) ≡ s ∷ ss) × Chain s (suc largest_penalty) ss = chained s e largest_penalty in
      let z : s.penalty ≡ 0 = (((path_names_cheapest losses n 0).some s).0 e).penalty_is in
      subst (Path losses n) (sym r.1)
      (record { names = λ p l. from_chain_names s (largest_penalty + 1) r.0 r.2 p (omega arith) (omega arith); canonical = (z, from_chain_rising s r.0 r.2) })

pub one_path : OnePath
one_path losses n ss = (only losses n (path_at losses 0 n) ss refl, λ e. subst (Path losses n) (sym e) (is_path losses n (path_at losses 0 n) refl))
