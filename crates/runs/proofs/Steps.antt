-- The step of a run: what one call does keeps the law.
use Rattle.std.proofs.Common.{◌≡◌, ℕ, min, true, false, List, [], ◌∷◌, ◌++◌, is_some, Some, None, Ok, Err, Option, Result, sym, refl, ap, ◌∙◌, subst, arith}
use Rattle.fault.specs.declared.Fault.{Fault}
use Rattle.fault.specs.Refusal.{or_else, unless}
use Rattle.loss.specs.Table.{Table}
use Rattle.division.specs.declared.mark.Mark.{Mark}
use Rattle.division.specs.Winner.{Criterion as Sought, winner, total}
use Rattle.division.proofs.Best.{winner_wins, winner_costs_least}
use Rattle.envelope.specs.declared.Step.{Step}
use Rattle.path.specs.Cuts.{line_path, NamesEveryCut}
use Rattle.path.proofs.Named.{steps_name_every_cut}
use Rattle.line.specs.declared.Marking.{Marking}
use Rattle.line.specs.declared.Cut.{Cut as Cut-line}
use Rattle.cuts.specs.declared.criterion.Criterion.{Criterion}
use Rattle.cuts.specs.Criterion.{sought}
use Rattle.line.specs.Calls.{open_refusal, cut_refusal}
use Rattle.runs.specs.declared.model.Lent.{Lent}
use Rattle.runs.specs.declared.model.Line.{Line}
use Rattle.runs.specs.declared.model.Line.TheVariants.{Marking as marking, Cut as cut}
use Rattle.runs.specs.declared.model.Call.{Call}
use Rattle.runs.specs.declared.model.Call.TheVariants.{Mark as Lay, Unmark, Shortest, Path, Cut, Reopen}
use Rattle.runs.specs.declared.model.Answer.{Answer}
use Rattle.runs.specs.State.{Room, State, readings_of, shortest_of, winning, none_allowed, found, cause_at, cause, answer, changed, carried, Performed}
use Rattle.runs.specs.History.{Event, History, stands, shortest, cut_for, before_path, event}
use Rattle.runs.specs.Best.{is_cut, MarksAfter, HoldsWinner, WellAsked, Answered}
use Rattle.runs.specs.Kept.{Kept, Keeps}
use Rattle.runs.proofs.Asked.{answered_now}
use Rattle.runs.proofs.Marked.{laid_after, lifted_after, one_list}

-- the law as far as it speaks of the calls that were well asked
abbrev AllAnswered : Table → Room → History → Type 0
AllAnswered t room h = (later : History) (e : Event) (before : History) → h ≡ later ++ (e ∷ before) → WellAsked t.length room before e.call → Answered t before e

-- the law from its parts, with the marks of the table
kept : (t : Table) (room : Room) (h : History) (s : State) → open_refusal t ≡ None → readings_of s.line ≡ t.length → shortest_of s.line ≡ shortest h → MarksAfter h s.marks → is_cut s.line ≡ is_some (cut_for h)
    → ((c : Sought) → cut_for h ≡ Some c → HoldsWinner c t s.marks (shortest h) s.line s.boundaries) → AllAnswered t room h
    → ((before : History) → before_path h ≡ Some before → (ms : List Mark) → MarksAfter before ms → NamesEveryCut t.loss ms (shortest before) t.length s.steps) → Kept t room h s
kept t room h s opened readings short standing state winner all path = record {
  opened = opened;
  law = record {
    marks = s.marks;
    standing = standing;
    cut_when_called = state;
    holds_winner = winner;
    answered = all;
    path_names = λ before e same m.
        subst (λ (x : ℕ). NamesEveryCut t.loss s.marks x t.length s.steps) (sym m)
        (path before e s.marks (record { rising = standing.rising; exactly = λ k. ((λ i. sym (same k) ∙ (standing.exactly k).0 i), (λ y. (standing.exactly k).1 (same k ∙ y))) }));
  };
  listed = refl;
  readings = readings;
  short = short;
  path = path;
}

-- what is kept, of the marks of the table
standing_of : (t : Table) (room : Room) (h : History) (s : State) → Kept t room h s → MarksAfter h s.marks
standing_of t room h s k = subst (MarksAfter h) k.listed k.law.standing

winner_of : (t : Table) (room : Room) (h : History) (s : State) → Kept t room h s → (c : Sought) → cut_for h ≡ Some c → HoldsWinner c t s.marks (shortest h) s.line s.boundaries
winner_of t room h s k c e = subst (λ (ms : List Mark). HoldsWinner c t ms (shortest h) s.line s.boundaries) k.listed (k.law.holds_winner c e)

-- one more event
more_answered : (t : Table) (room : Room) (e : Event) (h : History) → AllAnswered t room h → (WellAsked t.length room h e.call → Answered t h e) → AllAnswered t room (e ∷ h)
more_answered t room e h all here [] x before p asked =
    let P : Event → History → Type 0 = λ y b. WellAsked t.length room b y.call → Answered t b y in
    let pe : e ≡ x = cc in
    let ph : h ≡ before = cc in
    subst (λ (y : Event). P y before) pe (subst (λ (b : History). P e b) ph here) asked
more_answered t room e h all here (y ∷ later) x before p asked = let q : h ≡ later ++ (x ∷ before) = cc in all later x before q asked

-- a line that takes marks holds no division yet
not_none : {X : Type 0} (o : Option X) (x : X) → false ≡ is_some o → o ≡ Some x → ⊥
not_none o x s e = let z : false ≡ true = s ∙ ap is_some e in let w : ◌≡◌ {A = ℕ} 0 1 = cc in omega arith

module _ (t : Table) (room : Room) (s : State) (h : History) (k : Kept t room h s) where
  answered_next : (call : Call) (a : Answer) (reply : Result Answer Fault) → reply ≡ unless (cause t room s call) a → AllAnswered t room (event call reply ∷ h)
  answered_next call a reply q =
      more_answered t room (event call reply) h k.law.answered
      (answered_now t room h s.marks (standing_of t room h s k) k.opened a reply s.line k.law.cut_when_called k.readings k.short call q)

  -- a refused call changes nothing
  refused : (call : Call) (f : Fault) → cause t room s call ≡ Some f → Kept t room (event call (Err f) ∷ h) s
  refused call f q =
      let m : MarksAfter h s.marks = standing_of t room h s k in
      kept t room (event call (Err f) ∷ h) s k.opened k.readings k.short (record { rising = m.rising; exactly = m.exactly }) k.law.cut_when_called (winner_of t room h s k)
      (answered_next call (answer t s call) (Err f) (ap (λ (o : Option Fault). unless o (answer t s call)) (sym q)))
      k.path

  accepted_answered : (call : Call) → cause t room s call ≡ None → AllAnswered t room (event call (Ok (answer t s call)) ∷ h)
  accepted_answered call q = answered_next call (answer t s call) (Ok (answer t s call)) (ap (λ (o : Option Fault). unless o (answer t s call)) (sym q))

found_is : (w : Option (List ℕ)) → none_allowed w ≡ None → w ≡ Some (found w)
found_is None e = let w : ◌≡◌ {A = ℕ} 0 1 = cc in absurd (omega arith)
found_is (Some d) e = refl

last_none : (o : Option Fault) (p : Option Fault) → or_else o p ≡ None → p ≡ None
last_none None p e = e
last_none (Some f) p e = let w : ◌≡◌ {A = ℕ} 0 1 = cc in absurd (omega arith)

holds : (c : Sought) (t : Table) (marks : List Mark) (m : ℕ) (line : Cut-line) (d : List ℕ) → winner c t.loss marks m t.length ≡ Some d → line.total ≡ total c t.loss t.length d → HoldsWinner c t marks m (cut line) d
holds c t marks m line d e q =
    let w = ((winner_wins c t.loss marks m t.length).wins d).0 e in
    record { is = e; wins = w; least = λ x y. winner_costs_least c t.loss marks m t.length d x w y; told = ap Some q }

-- an accepted call of a line that takes marks
module _ (t : Table) (room : Room) (l : Marking) (ms : List Mark) (bs : List ℕ) (ss : List Step) (h : History) where
  abbrev now : State
  now = record { line = marking l; marks = ms; boundaries = bs; steps = ss }

  abbrev Next : Call → Type 0
  Next call = Kept t room h now → cause t room now call ≡ None → Kept t room (event call (Ok (answer t now call)) ∷ h) (changed t now call)

  after_lay : (m : Mark) → Next (Lay m)
  after_lay m k q =
      kept t room (event (Lay m) (Ok (answer t now (Lay m))) ∷ h) (changed t now (Lay m)) k.opened k.readings k.short (laid_after l.n m ms h _ q (standing_of t room h now k)) k.law.cut_when_called
      (λ c e. absurd (not_none (cut_for h) c k.law.cut_when_called e)) (accepted_answered t room now h k (Lay m) q) k.path

  after_unmark : (first : ℕ) → Next (Unmark first)
  after_unmark first k q =
      kept t room (event (Unmark first) (Ok (answer t now (Unmark first))) ∷ h) (changed t now (Unmark first)) k.opened k.readings k.short (lifted_after first ms h _ (standing_of t room h now k)) k.law.cut_when_called
      (λ c e. absurd (not_none (cut_for h) c k.law.cut_when_called e)) (accepted_answered t room now h k (Unmark first) q) k.path

  after_shortest : (m : ℕ) → Next (Shortest m)
  after_shortest m k q =
      let st : MarksAfter h ms = standing_of t room h now k in
      kept t room (event (Shortest m) (Ok (answer t now (Shortest m))) ∷ h) (changed t now (Shortest m)) k.opened k.readings refl (record { rising = st.rising; exactly = st.exactly }) k.law.cut_when_called
      (λ c e. absurd (not_none (cut_for h) c k.law.cut_when_called e)) (accepted_answered t room now h k (Shortest m) q) k.path

  after_path : (u : Lent) → Next (Path u)
  after_path u k q =
      let st : MarksAfter h ms = standing_of t room h now k in
      kept t room (event (Path u) (Ok (answer t now (Path u))) ∷ h) (changed t now (Path u)) k.opened k.readings k.short (record { rising = st.rising; exactly = st.exactly }) k.law.cut_when_called
      (λ c e. absurd (not_none (cut_for h) c k.law.cut_when_called e)) (accepted_answered t room now h k (Path u) q)
      (λ before e marks at. named before marks (let z : h ≡ before = cc in z) at)
    where
      named : (before : History) (marks : List Mark) → h ≡ before → MarksAfter before marks → NamesEveryCut t.loss marks (shortest before) t.length (line_path t.loss ms l.shortest l.n)
      named before marks e at =
          let st : MarksAfter h ms = standing_of t room h now k in
          let same : ms ≡ marks = one_list ms marks st.rising at.rising (λ x. ((λ i. (at.exactly x).1 (sym (ap (λ (y : History). stands y x) e) ∙ (st.exactly x).0 i)), (λ i. (st.exactly x).1 (ap (λ (y : History). stands y x) e ∙ (at.exactly x).0 i)))) in
          let P : List Mark → ℕ → ℕ → Type 0 = λ x m n. NamesEveryCut t.loss x m n (line_path t.loss ms l.shortest l.n) in
          let a : P ms l.shortest l.n = steps_name_every_cut t.loss ms l.shortest l.n in
          let b : P ms l.shortest t.length = subst (λ (n : ℕ). P ms l.shortest n) k.readings a in
          let c : P ms (shortest before) t.length = subst (λ (m : ℕ). P ms m t.length) (k.short ∙ ap shortest e) b in
          subst (λ (x : List Mark). P x (shortest before) t.length) same c

  after_cut : (c : Criterion) (u : Lent) → Next (Cut c u)
  after_cut c u k q =
      let st : MarksAfter h ms = standing_of t room h now k in
      kept t room (event (Cut c u) (Ok (answer t now (Cut c u))) ∷ h) (changed t now (Cut c u)) k.opened k.readings k.short (record { rising = st.rising; exactly = st.exactly }) refl
      (λ x e. subst (λ (y : Sought). HoldsWinner y t ms (shortest h) (changed t now (Cut c u)).line (changed t now (Cut c u)).boundaries) (let z : sought c ≡ x = cc in z) won) (accepted_answered t room now h k (Cut c u) q) k.path
    where
      won : HoldsWinner (sought c) t ms (shortest h) (changed t now (Cut c u)).line (changed t now (Cut c u)).boundaries
      won =
          let e : winner (sought c) t.loss ms l.shortest l.n ≡ Some (found (winning (sought c) t now)) = found_is (winning (sought c) t now) (last_none (cut_refusal (sought c) t l (min u.numbers room.numbers) (min u.trace room.trace) room.boundaries) (none_allowed (winning (sought c) t now)) q) in
          let d : List ℕ = found (winning (sought c) t now) in
          holds (sought c) t ms (shortest h) (record { n = l.n; shortest = l.shortest; total = total (sought c) t.loss l.n d }) d
          (subst (λ (m : ℕ). winner (sought c) t.loss ms m t.length ≡ Some d) k.short (subst (λ (n : ℕ). winner (sought c) t.loss ms l.shortest n ≡ Some d) k.readings e))
          (ap (λ (n : ℕ). total (sought c) t.loss n d) k.readings)

  accepted_marking : (call : Call) → Next call
  accepted_marking (Lay m) = after_lay m
  accepted_marking (Unmark first) = after_unmark first
  accepted_marking (Shortest m) = after_shortest m
  accepted_marking (Path u) = after_path u
  accepted_marking (Cut c u) = after_cut c u
  accepted_marking Reopen = λ k q. let w : ◌≡◌ {A = ℕ} 0 1 = cc in absurd (omega arith)

-- an accepted call of a line that is cut: only reopen
module _ (t : Table) (room : Room) (c : Cut-line) (ms : List Mark) (bs : List ℕ) (ss : List Step) (h : History) where
  abbrev held : State
  held = record { line = cut c; marks = ms; boundaries = bs; steps = ss }

  accepted_cut : (call : Call) → Kept t room h held → cause t room held call ≡ None → Kept t room (event call (Ok (answer t held call)) ∷ h) (changed t held call)
  accepted_cut (Lay m) k q = let w : ◌≡◌ {A = ℕ} 0 1 = cc in absurd (omega arith)
  accepted_cut (Unmark first) k q = let w : ◌≡◌ {A = ℕ} 0 1 = cc in absurd (omega arith)
  accepted_cut (Shortest m) k q = let w : ◌≡◌ {A = ℕ} 0 1 = cc in absurd (omega arith)
  accepted_cut (Path u) k q = let w : ◌≡◌ {A = ℕ} 0 1 = cc in absurd (omega arith)
  accepted_cut (Cut d u) k q = let w : ◌≡◌ {A = ℕ} 0 1 = cc in absurd (omega arith)
  accepted_cut Reopen k q =
      let st : MarksAfter h ms = standing_of t room h held k in
      kept t room (event Reopen (Ok (answer t held Reopen)) ∷ h) (changed t held Reopen) k.opened k.readings k.short (record { rising = st.rising; exactly = st.exactly }) refl
      (λ x e. let w : ◌≡◌ {A = ℕ} 0 1 = cc in absurd (omega arith)) (accepted_answered t room held h k Reopen q) k.path

accepted : (t : Table) (room : Room) (line : Line) (ms : List Mark) (bs : List ℕ) (ss : List Step) (h : History) (call : Call) → Kept t room h (record { line = line; marks = ms; boundaries = bs; steps = ss }) → cause_at t room ms line call ≡ None
    → Kept t room (event call (Ok (answer t (record { line = line; marks = ms; boundaries = bs; steps = ss }) call)) ∷ h) (changed t (record { line = line; marks = ms; boundaries = bs; steps = ss }) call)
accepted t room (marking l) ms bs ss h call = accepted_marking t room l ms bs ss h call
accepted t room (cut c) ms bs ss h call = accepted_cut t room c ms bs ss h call

-- what a call does keeps the law, whatever the history
pub step : (t : Table) (room : Room) (call : Call) (reply : Result Answer Fault) (old new : State) → Performed t room call reply old new → Keeps t room (event call reply) old new
step t room call reply old new p h k = go (cause t room old call) refl p.replied p.after
  where
    go : (o : Option Fault) → cause t room old call ≡ o → reply ≡ unless o (answer t old call) → new ≡ carried o old (changed t old call) → Kept t room (event call reply ∷ h) new
    go None e r s =
        subst (λ (x : State). Kept t room (event call reply ∷ h) x) (sym s)
        (subst (λ (x : Result Answer Fault). Kept t room (event call x ∷ h) (changed t old call)) (sym r) (accepted t room old.line old.marks old.boundaries old.steps h call k e))
    go (Some f) e r s = subst (λ (x : State). Kept t room (event call reply ∷ h) x) (sym s) (subst (λ (x : Result Answer Fault). Kept t room (event call x ∷ h) old) (sym r) (refused t room old h k call f e))

-- a fresh line
pub fresh_kept : (t : Table) (room : Room) (l : Marking) (bs : List ℕ) (ss : List Step) → open_refusal t ≡ None → l.n ≡ t.length → l.shortest ≡ 1 → Kept t room [] (record { line = marking l; marks = []; boundaries = bs; steps = ss })
fresh_kept t room l bs ss opened n m =
    kept t room [] _ opened n m (record { rising = tt; exactly = λ k. ((λ i. absurd i), (λ e. let w : ◌≡◌ {A = ℕ} 0 1 = cc in absurd (omega arith))) }) refl
    (λ c e. let w : ◌≡◌ {A = ℕ} 0 1 = cc in absurd (omega arith)) (λ later e before p. absurd (no_event later e before p)) (λ before e. let w : ◌≡◌ {A = ℕ} 0 1 = cc in absurd (omega arith))
  where
    no_event : (later : History) (x : Event) (b : History) → [] ≡ later ++ (x ∷ b) → ⊥
    no_event [] x b p = let w : ◌≡◌ {A = ℕ} 0 1 = cc in omega arith
    no_event (y ∷ later) x b p = let w : ◌≡◌ {A = ℕ} 0 1 = cc in omega arith
