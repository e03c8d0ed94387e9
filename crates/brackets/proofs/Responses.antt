-- The response time of a row is what a climb at full speed comes to; and the response times of a table, place by place.
use Rattle.std.proofs.Common.{◌≡◌, ℕ, zero, suc, ◌+◌, ◌-◌, ◌*◌, ◌<◌, List, [], ◌∷◌, ◌++◌, length, take, get_or, Option}
use Rattle.std.proofs.Common.{refl, sym, ap, ap₂, ◌∙◌, subst, leb, arith}
use Rattle.std.proofs.lemmas.List.{append_assoc, append-nil}
use Rattle.std.proofs.Math.Path.{fun_ext}
use Rattle.std.specs.Option.{option_map}
use Rattle.rows.specs.declared.tasks.Row.{Row}
use Rattle.rows.specs.Counting.{window}
use Rattle.bounds.specs.Instants.{least}
use Rattle.findings.specs.Exact.{exact_demand, exact_rest, response, Responds}
use Rattle.findings.proofs.FixedPoint.{response_is, responds}
use Rattle.brackets.specs.Responses.{responses_below, responses_of, TableResponds}
use Rattle.brackets.specs.Speeds.{IsExactOnFrames, rest_at_speed}

-- at full speed a row rests first where it does in exact steps
full_speed : (r : Row) (above : List Row) → rest_at_speed 1 1 r above ≡ exact_rest r above
unfolding rest_at_speed exact_rest
full_speed r above =
    ap (λ p. least p (window r) 1)
    (fun_ext (λ t. let demand : 1 * exact_demand r above t ≡ exact_demand r above t = omega arith in
    let at : 1 * t ≡ t = omega arith in ap₂ leb demand at))

-- with the jitter that is the response time
pub climbed : (r : Row) (above : List Row)
    → option_map (λ t. t + r.jitter) (rest_at_speed 1 1 r above) ≡ response r above
unfolding response
climbed r above = ap (option_map (λ t. t + r.jitter)) (full_speed r above)

-- which says what a response time says
pub responds_so : (r : Row) (above : List Row) (o : Option ℕ) → o ≡ response r above → Responds r above o
responds_so r above o is = subst (Responds r above) (sym is) (responds r above)

-- and is the exact one on every frame
pub on_frames : (r : Row) (above : List Row) (o : Option ℕ) → o ≡ response r above → IsExactOnFrames r above o
on_frames r above o is h stand = is ∙ sym (response_is h r above stand.frame)

-- so it is with every row of a table
pub table_responds : (rows : List Row) → TableResponds rows
table_responds rows xs ys r split = (responds r xs, on_frames r xs (response r xs) refl)

-- there are as many response times as rows
pub length_responses_below : (above rows : List Row) → length (responses_below above rows) ≡ length rows
length_responses_below above [] = refl
length_responses_below above (r ∷ rows) = ap suc (length_responses_below (above ++ r ∷ []) rows)

-- the response time at a place is that of the row there, below the rows before it
response_below_at : (above rows : List Row) (i : ℕ) (d : Option ℕ) (r : Row) → i < length rows
    → get_or (responses_below above rows) i d ≡ response (get_or rows i r) (above ++ take i rows)
response_below_at above [] i d r within = absurd (omega arith)
response_below_at above (s ∷ rows) zero d r within = ap (response s) (sym (append-nil above))
response_below_at above (s ∷ rows) (suc i) d r within =
    response_below_at (above ++ s ∷ []) rows i d r (omega arith)
    ∙ ap (response (get_or rows i r)) (append_assoc above (s ∷ []) (take i rows))

-- so the response time of a row stands at its place
pub response_at : (rows : List Row) (i : ℕ) (r : Row) (o : Option ℕ) → i < length rows → r ≡ get_or rows i r
    → o ≡ response r (take i rows) → o ≡ get_or (responses_of rows) (i - 0) o
response_at rows i r o within here found =
    let all : i - 0 ≡ i = omega arith in
    found ∙ ap (λ s. response s (take i rows)) here ∙ sym (response_below_at [] rows i o r within)
    ∙ ap (λ n. get_or (responses_of rows) n o) (sym all)
