-- What is printed, byte by byte, is the reply to each line.
use Rattle.std.proofs.Common.{◌≡◌, ℕ, zero, suc, ◌+◌, true, false, eqb, List, [], ◌∷◌, ◌++◌, length, take, fold, sym, refl, ap, ◌∙◌, subst, inl, inr, arith}
use Rattle.std.proofs.lemmas.Bool.{ne_eqb, eq-eqb, cases_Bool, cases_lt}
use Rattle.std.proofs.lemmas.List.{length-take-le, take_all, append-nil, append_assoc, take-append-le}
use Rattle.inputs.specs.Lines.{on_first, all_lines, lines_of, whole, state_after, replies_to, text_of}
use Rattle.inputs.specs.Reading.{Read, begun, ended, next, closed, Answered, LineByLine}

pub parts_join : {T B : Type 0} (f : T → B → T) (t : T) (a b : List B) → fold f t (a ++ b) ≡ fold f (fold f t a) b
parts_join f t [] b = refl
parts_join f t (x ∷ xs) b = parts_join f (f t x) xs b

pub part_by_part : {T : Type 0} (f : T → ℕ → T) (t : T) (parts : List (List ℕ)) → fold (fold f) t parts ≡ fold f t (whole parts)
part_by_part f t [] = refl
part_by_part f t (p ∷ ps) = part_by_part f (fold f t p) ps ∙ sym (parts_join f t p (whole ps))

-- a begun line in front of the lines to come
abbrev onto : List ℕ → List (List ℕ) → List (List ℕ)
onto [] ls = ls
onto (x ∷ xs) [] = (x ∷ xs) ∷ []
onto (x ∷ xs) (l ∷ ls) = ((x ∷ xs) ++ l) ∷ ls

onto_end : (full : List ℕ) (ls : List (List ℕ)) → onto full ([] ∷ ls) ≡ full ∷ ls
onto_end [] ls = refl
onto_end (x ∷ xs) ls = ap (λ (l : List ℕ). l ∷ ls) (append-nil (x ∷ xs))

onto_more : (full : List ℕ) (b : ℕ) (ls : List (List ℕ)) → onto (full ++ b ∷ []) ls ≡ onto full (on_first b ls)
onto_more [] b [] = refl
onto_more [] b (l ∷ ls) = refl
onto_more (x ∷ xs) b [] = refl
onto_more (x ∷ xs) b (l ∷ ls) = ap (λ (k : List ℕ). k ∷ ls) (append_assoc (x ∷ xs) (b ∷ []) l)

take_none : {A : Type 0} (n : ℕ) → ◌≡◌ {A = List A} (take n []) []
take_none zero = refl
take_none (suc n) = refl

-- one byte more of a line, of which 131 are kept
front_more : (full : List ℕ) (b : ℕ) → take 131 (take 131 full ++ b ∷ []) ≡ take 131 (full ++ b ∷ [])
front_more full b =
    elim (cases_lt (length full) 131) [
      | inl l ↦ ap (λ (z : List ℕ). take 131 (z ++ b ∷ [])) (take_all 131 full (omega arith))
      | inr l ↦
          let k : length (take 131 full) ≡ 131 = length-take-le 131 full l in
          take-append-le 131 (take 131 full) (b ∷ []) (omega (arith, k)) ∙ take_all 131 (take 131 full) (omega (arith, k)) ∙ sym (take-append-le 131 full (b ∷ []) l)
    ]

module _ {S : Type 0} (step : S → List ℕ → ℕ → S) (reply : S → List ℕ → ℕ → List ℕ)
    (stepped : (s : S) (line : List ℕ) (n : ℕ) → step s (take 131 line) n ≡ step s line n)
    (replied : (s : S) (line : List ℕ) (n : ℕ) → reply s (take 131 line) n ≡ reply s line n) where
  -- what n lines and those to come leave
  abbrev Leaves : S → ℕ → List ℕ → List (List ℕ) → Read S → Type 0
  Leaves s n out ls r = (r.state ≡ state_after step s n ls) × (r.text ≡ out ++ text_of (replies_to step reply s n ls))

  abbrev at : List ℕ → ℕ → S → List ℕ → Read S
  at line n s out = record { line = line; lines = n; state = s; text = out }

  -- behind line 65,535 nothing is read
  over : (bytes : List ℕ) (r : Read S) → eqb r.lines 65535 ≡ true → fold (next step reply) r bytes ≡ r
  over [] r e = refl
  over (b ∷ bs) r e =
      let same : next step reply r b ≡ r = simp e in
      ap (λ (x : Read S). fold (next step reply) x bs) same ∙ over bs r e

  closed_over : (r : Read S) → eqb r.lines 65535 ≡ true → closed step reply r ≡ r
  closed_over r e =
      elim (cases_Bool (eqb (length r.line) 0)) [
        | inl k ↦ simp k
        | inr k ↦ simp (k, e)
      ]

  ends : (full out : List ℕ) (n : ℕ) (s : S) → ended step reply (at (take 131 full) n s out) ≡ at [] (n + 1) (step s full (n + 1)) (out ++ (reply s full (n + 1) ++ 10 ∷ []))
  ends full out n s =
      ap (λ (x : S). at [] (n + 1) x (out ++ (reply s (take 131 full) (n + 1) ++ 10 ∷ []))) (stepped s full (n + 1))
      ∙ ap (λ (x : List ℕ). at [] (n + 1) (step s full (n + 1)) (out ++ (x ++ 10 ∷ []))) (replied s full (n + 1))

  next_ends : (full out : List ℕ) (n b : ℕ) (s : S) → eqb n 65535 ≡ false → eqb b 10 ≡ true
      → next step reply (at (take 131 full) n s out) b ≡ at [] (n + 1) (step s full (n + 1)) (out ++ (reply s full (n + 1) ++ 10 ∷ []))
  next_ends full out n b s e q = let h : next step reply (at (take 131 full) n s out) b ≡ ended step reply (at (take 131 full) n s out) = simp (e, q) in h ∙ ends full out n s

  next_more : (full out : List ℕ) (n b : ℕ) (s : S) → eqb n 65535 ≡ false → eqb b 10 ≡ false → next step reply (at (take 131 full) n s out) b ≡ at (take 131 (full ++ b ∷ [])) n s out
  next_more full out n b s e q =
      let h : next step reply (at (take 131 full) n s out) b ≡ at (take 131 (take 131 full ++ b ∷ [])) n s out = simp (e, q) in
      h ∙ ap (λ (x : List ℕ). at x n s out) (front_more full b)

  -- a line answered, and those behind it
  one_line : (full out : List ℕ) (n : ℕ) (s : S) (ls : List (List ℕ)) (r : Read S)
      → Leaves (step s full (n + 1)) (n + 1) (out ++ (reply s full (n + 1) ++ 10 ∷ [])) ls r → Leaves s n out (full ∷ ls) r
  one_line full out n s ls r h = (h.0, h.1 ∙ append_assoc out (reply s full (n + 1) ++ 10 ∷ []) (text_of (replies_to step reply (step s full (n + 1)) (n + 1) ls)))

  by_line : (s : S) (n : ℕ) (out : List ℕ) (ls ks : List (List ℕ)) (r : Read S) → ls ≡ ks → Leaves s n out ls r → Leaves s n out ks r
  by_line s n out ls ks r e h = subst (λ (x : List (List ℕ)). Leaves s n out x r) e h

  by_read : (s : S) (n : ℕ) (out : List ℕ) (ls : List (List ℕ)) (q r : Read S) → q ≡ r → Leaves s n out ls r → Leaves s n out ls q
  by_read s n out ls q r e h = subst (λ (x : Read S). Leaves s n out ls x) (sym e) h

  last_line : (full out : List ℕ) (n left : ℕ) (s : S) → eqb n 65535 ≡ false → Leaves s n out (take (suc left) (onto full [])) (closed step reply (at (take 131 full) n s out))
  last_line [] out n left s e = (refl, sym (append-nil out))
  last_line (x ∷ xs) out n left s e =
      let k : eqb (length (take 131 (x ∷ xs))) 0 ≡ false = ne_eqb (length (take 131 (x ∷ xs))) 0 (λ z. omega arith) in
      let h : closed step reply (at (take 131 (x ∷ xs)) n s out) ≡ ended step reply (at (take 131 (x ∷ xs)) n s out) = simp (k, e) in
      let after = at [] (n + 1) (step s (x ∷ xs) (n + 1)) (out ++ (reply s (x ∷ xs) (n + 1) ++ 10 ∷ [])) in
      by_read s n out (take (suc left) ((x ∷ xs) ∷ [])) (closed step reply (at (take 131 (x ∷ xs)) n s out)) after (h ∙ ends (x ∷ xs) out n s)
      (by_line s n out ((x ∷ xs) ∷ []) (take (suc left) ((x ∷ xs) ∷ [])) after (ap (λ (ls : List (List ℕ)). (x ∷ xs) ∷ ls) (sym (take_none left)))
      (one_line (x ∷ xs) out n s [] after (refl, sym (append-nil (out ++ (reply s (x ∷ xs) (n + 1) ++ 10 ∷ []))))))

  from : (bytes full out : List ℕ) (n left : ℕ) (s : S) → n + left ≡ 65535
      → Leaves s n out (take left (onto full (all_lines bytes))) (closed step reply (fold (next step reply) (at (take 131 full) n s out) bytes))
  from bytes full out n zero s e =
      let o : eqb n 65535 ≡ true = eq-eqb n 65535 (omega arith) in
      let here = at (take 131 full) n s out in
      by_read s n out [] (closed step reply (fold (next step reply) here bytes)) here (ap (closed step reply) (over bytes here o) ∙ closed_over here o) (refl, sym (append-nil out))
  from [] full out n (suc left) s e = last_line full out n left s (ne_eqb n 65535 (λ z. omega arith))
  from (b ∷ bs) full out n (suc left) s e =
      let o : eqb n 65535 ≡ false = ne_eqb n 65535 (λ z. omega arith) in
      let run : Read S → Read S = λ (x : Read S). closed step reply (fold (next step reply) x bs) in
      elim (cases_Bool (eqb b 10)) [
        | inl q ↦
            let ls : full ∷ all_lines bs ≡ onto full (all_lines (b ∷ bs)) = sym (simp q (onto_end full (all_lines bs))) in
            let then = at [] (n + 1) (step s full (n + 1)) (out ++ (reply s full (n + 1) ++ 10 ∷ [])) in
            by_read s n out (take (suc left) (onto full (all_lines (b ∷ bs)))) (run (next step reply (at (take 131 full) n s out) b)) (run then) (ap run (next_ends full out n b s o q))
            (by_line s n out (full ∷ take left (all_lines bs)) (take (suc left) (onto full (all_lines (b ∷ bs)))) (run then) (ap (λ (x : List (List ℕ)). take (suc left) x) ls)
            (one_line full out n s (take left (all_lines bs)) (run then) (from bs [] (out ++ (reply s full (n + 1) ++ 10 ∷ [])) (n + 1) left (step s full (n + 1)) (omega arith))))
        | inr q ↦
            let ls : onto (full ++ b ∷ []) (all_lines bs) ≡ onto full (all_lines (b ∷ bs)) = sym (simp q (sym (onto_more full b (all_lines bs)))) in
            let then = at (take 131 (full ++ b ∷ [])) n s out in
            by_read s n out (take (suc left) (onto full (all_lines (b ∷ bs)))) (run (next step reply (at (take 131 full) n s out) b)) (run then) (ap run (next_more full out n b s o q))
            (by_line s n out (take (suc left) (onto (full ++ b ∷ []) (all_lines bs))) (take (suc left) (onto full (all_lines (b ∷ bs)))) (run then) (ap (λ (x : List (List ℕ)). take (suc left) x) ls)
            (from bs (full ++ b ∷ []) out n (suc left) s e))
      ]

  pub whole_input : (s : S) (out bytes : List ℕ) → Answered step reply s out (lines_of bytes) (closed step reply (fold (next step reply) (begun s out) bytes))
  whole_input s out bytes = let h = from bytes [] out 0 65535 s (omega arith) in record { after = h.0; printed = h.1 }

  pub line_by_line : LineByLine step reply
  line_by_line s out parts =
      let e = part_by_part (next step reply) (begun s out) parts in
      subst (λ (r : Read S). Answered step reply s out (lines_of (whole parts)) (closed step reply r)) (sym e) (whole_input s out (whole parts))
