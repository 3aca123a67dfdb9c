-- A run call by call: what holds before each call and after the last.
use Rattle.std.proofs.Common.{◌≡◌, ℕ, zero, suc, ◌+◌, ◌<◌, ◌≤◌, cond, ltb, List, [], ◌∷◌, ◌++◌, length, get_or, take, drop, set, Some, None, Ok, Err, Option, Result, sym, refl, ap, ◌∙◌, subst, ap₂, arith, length-append, length-set, length-take, take_all, drop-set-lt, MatchResult}
use Rattle.std.proofs.lemmas.List.{take_more}
use Rattle.std.proofs.lemmas.Bool.{lt-ltb}
use Rattle.std.proofs.lemmas.Bool.Decides.{nat_tests}
use Rattle.fault.specs.declared.Fault.{Fault}
use Rattle.fault.specs.declared.Fault.TheVariants.{ShortBuffer}
use Rattle.fault.specs.Refusal.{unless}
use Rattle.loss.specs.Table.{Table}
use Rattle.list.specs.declared.List.{List as Lent-list}
use Rattle.list.specs.Entries.{entries, places}
use Rattle.marks.specs.declared.table.MarkTable.{MarkTable}
use Rattle.marks.specs.Table.{marks_of}
use Rattle.envelope.specs.declared.Step.{Step}
use Rattle.line.specs.declared.Marking.{Marking}
use Rattle.line.specs.Calls.{open_refusal, fresh}
use Rattle.runs.specs.declared.model.Line.{Line}
use Rattle.runs.specs.declared.model.Line.TheVariants.{Marking as marking}
use Rattle.runs.specs.declared.model.Call.{Call}
use Rattle.runs.specs.declared.model.Answer.{Answer}
use Rattle.runs.specs.State.{Room, room_of, state, SameSlice, PastKept}
use Rattle.runs.specs.History.{History, event, onward, history}
use Rattle.runs.specs.Best.{BestAfter, view}
use Rattle.runs.specs.Kept.{Kept, Keeps}
use Rattle.runs.specs.Run.{run_refusal}
use Rattle.runs.proofs.Steps.{fresh_kept}

onward_more : (h : History) (cs : List Call) (rs : List (Result Answer Fault)) (c : Call) (r : Result Answer Fault) → length cs ≡ length rs → onward h (cs ++ (c ∷ [])) (rs ++ (r ∷ [])) ≡ event c r ∷ onward h cs rs
onward_more h [] [] c r p = refl
onward_more h [] (x ∷ rs) c r p = absurd (omega arith)
onward_more h (x ∷ cs) [] c r p = absurd (omega arith)
onward_more h (x ∷ cs) (y ∷ rs) c r p = onward_more (event x y ∷ h) cs rs c r (omega arith)

history_more : (calls : List Call) (rs : List (Result Answer Fault)) (i : ℕ) (d : Call) (r : Result Answer Fault) → i < length calls → length rs ≡ i → history (take (i + 1) calls) (rs ++ (r ∷ [])) ≡ event (get_or calls i d) r ∷ history (take i calls) rs
history_more calls rs i d r h e =
    let a = take_more calls i d h in
    let same : length (take i calls) ≡ length rs = simp length-take (omega arith) in
    rw a (onward_more [] (take i calls) rs (get_or calls i d) r same)

-- what was pushed behind the entries
pub record Pushed {X : Type 0} (old new : Lent-list X) (x : X) : Type 0 where
  pub entries_are : entries new ≡ entries old ++ x ∷ []
  pub places_are : places new ≡ set (places old) (length (entries old)) x
  pub lender : new.items.ghost_name ≡ old.items.ghost_name

pub pushed : {X : Type 0} (old new : Lent-list X) (x : X) (r : Result (Unit {0}) Fault) → length (entries old) < length (places old) → r ≡ cond (ltb (length (entries old)) (length (places old))) (Ok tt) (Err ShortBuffer)
    → MatchResult r (λ _. (entries new ≡ entries old ++ x ∷ []) × (places new ≡ set (places old) (length (entries old)) x)) (λ _. new ≡ old) → new.items.ghost_name ≡ old.items.ghost_name → Pushed old new x
pushed {X} old new x r h v c n = go r (v ∙ ap (λ b. cond b (Ok tt) (Err ShortBuffer)) (lt-ltb _ _ h)) c
  where
    go : (q : Result (Unit {0}) Fault) → q ≡ Ok tt → MatchResult q (λ _. (entries new ≡ entries old ++ x ∷ []) × (places new ≡ set (places old) (length (entries old)) x)) (λ _. new ≡ old) → Pushed old new x
    go (Ok u) e p = record { entries_are = p.0; places_are = p.1; lender = n }
    go (Err f) e p = let z : ◌≡◌ {A = ℕ} 0 1 = cc in absurd (omega arith)

drop_more : {X : Type 0} (n : ℕ) (xs ys : List X) → drop n xs ≡ drop n ys → drop (suc n) xs ≡ drop (suc n) ys
drop_more n xs ys e = sym (one n xs) ∙ ap (drop 1) e ∙ one n ys
  where
    one : {X : Type 0} (n : ℕ) (xs : List X) → drop 1 (drop n xs) ≡ drop (suc n) xs
    one zero xs = refl
    one (suc n) [] = refl
    one (suc n) (x ∷ xs) = one n xs

-- where the places are those of another list, so are those past the entries
pub past_of : {X : Type 0} (first old new : Lent-list X) → places old ≡ places first → SameSlice first old → PastKept old new → PastKept first new
past_of first old new e p q = record { past = q.past ∙ ap (drop (length (entries new))) e; slice = record { room = q.slice.room ∙ p.room; lender = q.slice.lender ∙ p.lender } }

past_pushed : {X : Type 0} (first old new : Lent-list X) (x : X) → PastKept first old → Pushed old new x → PastKept first new
past_pushed first old new x p q =
    let g : length (entries new) ≡ suc (length (entries old)) = ap length q.entries_are ∙ length-append (entries old) (x ∷ []) ∙ (omega arith) in
    let lt : length (entries old) < suc (length (entries old)) = omega arith in
    record {
      past = subst (λ (n : ℕ). drop n (places new) ≡ drop n (places first)) (sym g)
          (ap (drop (suc (length (entries old)))) q.places_are ∙ drop-set-lt (suc (length (entries old))) (places old) (length (entries old)) x lt ∙ drop_more (length (entries old)) (places old) (places first) p.past);
      slice = record { room = ap length q.places_are ∙ length-set _ _ _ ∙ p.slice.room; lender = q.lender ∙ p.slice.lender };
    }

slice_on : {X : Type 0} (a b c : Lent-list X) → SameSlice a b → SameSlice b c → SameSlice a c
slice_on a b c p q = record { room = q.room ∙ p.room; lender = q.lender ∙ p.lender }

-- before the call number i, counted from 0
pub record Underway (t : Table) (numbers trace : ℕ) (calls : List Call) (i : ℕ) (r₀ r : Lent-list (Result Answer Fault)) (b₀ b : Lent-list ℕ) (s₀ s : Lent-list Step) (line : Line) (table : MarkTable) : Type 0 where
  pub fits : length calls ≤ length (places r)
  pub count : length (entries r) ≡ i
  pub replies : PastKept r₀ r
  pub boundaries : SameSlice b₀ b
  pub steps : SameSlice s₀ s
  pub kept : Kept t (room_of numbers trace b₀ s₀) (history (take i calls) (entries r)) (state line table b s)

same_room : (numbers trace : ℕ) (b₀ b : Lent-list ℕ) (s₀ s : Lent-list Step) → SameSlice b₀ b → SameSlice s₀ s → room_of numbers trace b₀ s₀ ≡ room_of numbers trace b s
same_room numbers trace b₀ b s₀ s p q = ap₂ (λ (x y : ℕ). record { numbers = numbers; trace = trace; boundaries = x; steps = y }) (sym p.room) (sym q.room)

-- what an answer that is given tells of the refusal
pub given : {X : Type 0} (o : Option Fault) (x y : X) → Ok x ≡ unless o y → (o ≡ None) × (x ≡ y)
given None x y e = (refl, let z : x ≡ y = cc in z)
given (Some f) x y e = let z : ◌≡◌ {A = ℕ} 0 1 = cc in absurd (omega arith)

pub begun : (t : Table) (numbers trace : ℕ) (calls : List Call) (places₀ : ℕ) (r : Lent-list (Result Answer Fault)) (b : Lent-list ℕ) (s : Lent-list Step) (l : Marking) (table : MarkTable)
    → run_refusal t (length calls) places₀ ≡ None → l ≡ fresh t → length (places r) ≡ places₀ → entries r ≡ [] → marks_of table ≡ [] → Underway t numbers trace calls 0 r r b b s s (marking l) table
begun t numbers trace calls places₀ r b s l table none fresh-line roomy empty unmarked =
    let opened : open_refusal t ≡ None = grind (arith, nat_tests) in
    let room_left : length calls ≤ places₀ = grind (arith, nat_tests) in
    record {
      fits = omega arith;
      count = ap length empty;
      replies = record { past = refl; slice = record { room = refl; lender = refl } };
      boundaries = record { room = refl; lender = refl };
      steps = record { room = refl; lender = refl };
      kept = subst (λ (rs : List (Result Answer Fault)). Kept t (room_of numbers trace b s) (history (take 0 calls) rs) (state (marking l) table b s)) (sym empty)
          (subst (λ (h : History). Kept t (room_of numbers trace b s) h (state (marking l) table b s)) (sym none_yet)
          (subst (λ ms. Kept t (room_of numbers trace b s) [] (record { line = marking l; marks = ms; boundaries = entries b; steps = entries s })) (sym unmarked)
          (fresh_kept t (room_of numbers trace b s) l (entries b) (entries s) opened (ap (λ (x : Marking). x.n) fresh-line) (ap (λ (x : Marking). x.shortest) fresh-line))));
    }
  where
    none_yet : history (take 0 calls) [] ≡ []
    none_yet = refl

module _ (t : Table) (numbers trace : ℕ) (calls : List Call) (i : ℕ) (r₀ r : Lent-list (Result Answer Fault)) (b₀ b : Lent-list ℕ) (s₀ s : Lent-list Step) (line : Line) (table : MarkTable) (w : Underway t numbers trace calls i r₀ r b₀ b s₀ s line table) where
  -- whoever looks sees the law hold
  pub lawful : BestAfter t (room_of numbers trace b s) (history (take i calls) (entries r)) (view line b s)
  lawful = subst (λ (x : Room). BestAfter t x (history (take i calls) (entries r)) (view line b s)) (same_room numbers trace b₀ b s₀ s w.boundaries w.steps) w.kept.law

  pub again : (d : Call) (reply : Result Answer Fault) (numbers' trace' : ℕ) (r' : Lent-list (Result Answer Fault)) (b' : Lent-list ℕ) (s' : Lent-list Step) (line' : Line) (table' : MarkTable) → i < length calls → numbers' ≡ numbers → trace' ≡ trace
      → Keeps t (room_of numbers' trace' b s) (event (get_or calls i d) reply) (state line table b s) (state line' table' b' s') → PastKept b b' → PastKept s s' → Pushed r r' reply → Underway t numbers trace calls (i + 1) r₀ r' b₀ b' s₀ s' line' table'
  again d reply numbers' trace' r' b' s' line' table' h x y keeps p q push =
      let K : History → Type 0 = λ x. Kept t (room_of numbers trace b₀ s₀) x (state line' table' b' s') in
      let keeps₀ : Keeps t (room_of numbers trace b₀ s₀) (event (get_or calls i d) reply) (state line table b s) (state line' table' b' s') =
      subst (λ (z : Room). Keeps t z (event (get_or calls i d) reply) (state line table b s) (state line' table' b' s')) (ap₂ (λ (m n : ℕ). room_of m n b s) x y ∙ sym (same_room numbers trace b₀ b s₀ s w.boundaries w.steps)) keeps in
      record {
        fits = let e : length (places r') ≡ length (places r) = ap length push.places_are ∙ length-set _ _ _ in omega (arith, w.fits);
        count = ap length push.entries_are ∙ length-append (entries r) (reply ∷ []) ∙ ap (λ (x : ℕ). x + 1) w.count;
        replies = past_pushed r₀ r r' reply w.replies push;
        boundaries = slice_on b₀ b b' w.boundaries p.slice;
        steps = slice_on s₀ s s' w.steps q.slice;
        kept = subst (λ (rs : List (Result Answer Fault)). K (history (take (i + 1) calls) rs)) (sym push.entries_are) (subst K (sym (history_more calls (entries r) i d reply h w.count)) (keeps₀ (history (take i calls) (entries r)) w.kept));
      }

  -- after the last call
  pub lawful_now : length calls ≤ i → BestAfter t (room_of numbers trace b s) (history calls (entries r)) (view line b s)
  lawful_now h = subst (λ (cs : List Call). BestAfter t (room_of numbers trace b s) (history cs (entries r)) (view line b s)) (take_all i calls h) lawful

  pub ended : length calls ≤ i → i ≤ length calls → Kept t (room_of numbers trace b₀ s₀) (history calls (entries r)) (state line table b s) × (length (entries r) ≡ length calls)
  ended h k = (
    subst (λ (cs : List Call). Kept t (room_of numbers trace b₀ s₀) (history cs (entries r)) (state line table b s)) (take_all i calls h) w.kept,
    omega (arith, w.count),
  )
