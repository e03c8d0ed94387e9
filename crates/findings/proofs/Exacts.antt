-- Exact demand, row after row, and what is known where it is not served.
use Rattle.std.proofs.Common.{◌≡◌, ℕ, ◌+◌, ◌-◌, ◌*◌, ◌/◌, ◌%◌, ◌^◌, ◌<◌, ◌≤◌, true, false, min, List, [], ◌∷◌, ◌++◌}
use Rattle.std.proofs.Common.{get_or, length, take, sum_by, ap, sym, ◌∙◌, inl, inr, lt_of_mul-lt-mul_right, arith}
use Rattle.std.proofs.lemmas.Nat.{mul-le, div-add-mod'}
use Rattle.std.proofs.lemmas.Bool.{lt-leb, cases_lt, eqb-true}
use Rattle.std.proofs.lemmas.Grind.{take_at_read}
use Rattle.std.proofs.lemmas.List.Sums.{sum_by-append, sum_by-cons, sum_by-le, sum_by-take-le, sum_by-le-sum_by}
use Rattle.std.proofs.lemmas.List.Elements.{All-head, All-tail}
use Rattle.std.proofs.lemmas.List.{length-append}
use Rattle.rows.specs.declared.tasks.Row.{Row}
use Rattle.rows.specs.Times.{horizon, ceiling}
use Rattle.rows.specs.Counting.{steps, is_on_frame}
use Rattle.rows.proofs.Ceiling.{ceiling_tight, ceiling_covers, ceiling_by_quotient}
use Rattle.rows.proofs.Rising.{steps_grow}
use Rattle.bounds.specs.Laws.{Laws}
use Rattle.findings.specs.Asking.{most_above}
use Rattle.bounds.specs.Meaning.{Meaning}
use Rattle.findings.specs.Demand.{Load, load, demand, is_rest}
use Rattle.findings.specs.Served.{exact_of, NoneServed}
use Rattle.findings.specs.Lines.{LiesUnder, share_of}
use Rattle.findings.specs.Countable.{StandOn, CanBeCounted}
use Rattle.findings.proofs.Amounts.{asked_on_frame, demand_fits, frame_low}

-- a sum over the first rows, and over one more
pub sum_more : (f : Row → ℕ) (rows : List Row) (i : ℕ) (d : Row) → i < length rows
    → sum_by f (take (i + 1) rows) ≡ sum_by f (take i rows) + f (get_or rows i d)
sum_more f rows i d small =
    let more = ap (sum_by f) ((take_at_read rows i d small).1) ∙ sum_by-append f (take i rows) (get_or rows i d ∷ []) in
    omega (arith, more, sum_by-cons f (get_or rows i d) [])

-- a sum over the first rows and over one more, whose value is known whatever stands past the last
pub sum_with : (f : Row → ℕ) (rows : List Row) (i x : ℕ) → i < length rows → ((d : Row) → x ≡ f (get_or rows i d))
    → sum_by f (take (i + 1) rows) ≡ sum_by f (take i rows) + x
sum_with f [] i x small is = absurd (omega arith)
sum_with f (r ∷ rows) i x small is = sum_more f (r ∷ rows) i r small
    ∙ ap (λ n. sum_by f (take i (r ∷ rows)) + n) (sym (is r))

-- the own work and the steps of the first i rows above
abbrev pub part_exact : Load → ℕ → ℕ → ℕ
part_exact l i t = l.own + sum_by (λ r. steps r t) (take i l.above)

-- the own work and the amounts of the first i rows above, in parts
abbrev pub part_demand : Load → ℕ → ℕ → ℕ
part_demand l i t = l.frame * l.own + sum_by (λ r. l.bound.amount l.frame r t) (take i l.above)

-- no steps up to the horizon pass this
pub steps_small : (r : Row) (t : ℕ) → t ≤ horizon → steps r t ≤ 3 * horizon
steps_small r t near =
    let jobs = ceiling (t + r.jitter) r.period in
    let tight = ceiling_tight (t + r.jitter) r.period (omega arith) in
    let work = mul-le r.work jobs r.period jobs (omega arith) (omega arith) in
    omega (arith, work, tight)

-- the exact demand of some rows fits 32 bits
pub part_small : (l : Load) (i t : ℕ) → l.own ≤ horizon → length l.above ≤ most_above → t ≤ horizon
    → part_exact l i t < 2 ^ 32
part_small l i t small few near =
    let f : Row → ℕ = λ r. steps r t in
    let all = sum_by-le f (3 * horizon) l.above (λ k d place. steps_small (get_or l.above k d) t near) in
    let rows = mul-le (length l.above) (3 * horizon) most_above (3 * horizon) few (omega arith) in
    omega (arith, sum_by-take-le f l.above i, all, rows)

-- the demand of some rows by a bound fits 64 bits
pub part_fits : (l : Load) (i t : ℕ) → Laws l.bound → CanBeCounted most_above l.frame l.above → l.own < 2 ^ 32
    → t ≤ horizon → part_demand l i t < 2 ^ 64
part_fits l i t laws countable small near =
    let f : Row → ℕ = λ r. l.bound.amount l.frame r t in
    omega (arith, sum_by-take-le f l.above i, demand_fits l laws countable t near small)

-- the exact demand never falls
pub exact_grows : (l : Load) (s t : ℕ) → s ≤ t → exact_of l s ≤ exact_of l t
exact_grows l s t order = omega (
  arith,
  sum_by-le-sum_by (λ r. steps r s) (λ r. steps r t) l.above
      (λ r. steps_grow r s t order),
)

-- exact steps are nowhere above the amounts by a bound
covered : (m : _) → Laws m → (h : ℕ) (rows : List Row) (t : ℕ) → StandOn h rows → t ≤ horizon
    → h * sum_by (λ r. steps r t) rows ≤ sum_by (λ r. m.amount h r t) rows
covered m laws h [] t stands near = omega arith
covered m laws h (r ∷ rows) t stands near =
    let asked = asked_on_frame h r t stands.frame (All-head (λ s. is_on_frame h s ≡ true) r rows stands.on) near in
    let others : StandOn h rows = record {
      frame = stands.frame;
      on =
          All-tail (λ s. is_on_frame h s ≡ true) r rows stands.on;
    } in
    rw (sum_by-cons (λ s. steps s t) r rows, sum_by-cons (λ s. m.amount h s t) r rows)
    (omega (arith, laws.covers h r t asked, covered m laws h rows t others near))

-- an instant that does not serve its exact demand is no rest by any lawful bound
pub not_served : (l : Load) → Laws l.bound → StandOn l.frame l.above → (t : ℕ) → t ≤ horizon → t < exact_of l t
    → is_rest l t ≡ false
not_served l laws stands t near late =
    let low = frame_low l.frame stands.frame in
    let whole = mul-le l.frame (t + 1) l.frame (exact_of l t) (omega arith) (omega arith) in
    lt-leb (demand l t) (l.frame * t) (omega (arith, covered l.bound laws l.frame l.above t stands near, low, whole))

-- an instant before the exact demand of an earlier one does not serve its own
pub skipped : (l : Load) (from at next : ℕ) → NoneServed l from at → next ≤ exact_of l at → NoneServed l from next
skipped l from at next none over t late early = elim (cases_lt t at) [
  | inl before ↦ none t late before
  | inr past ↦ omega (arith, exact_grows l at t past)
]

-- the line below the steps of one row more
pub lies_more : (h : ℕ) (r : Row) (x : ℕ) → h ≤ horizon → is_on_frame h r ≡ true → x ≤ share_of h r
    → (rows : List Row) (slope height : ℕ) → LiesUnder h rows slope height
    → LiesUnder h (rows ++ r ∷ []) (slope + x) (height + x * r.jitter)
lies_more h r x near on little rows slope height lies =
    let size : length (rows ++ r ∷ []) ≡ length rows + 1 = length-append rows (r ∷ []) in
    let divides : h / r.period * r.period ≡ h = omega (arith, div-add-mod' h r.period, eqb-true (h % r.period) 0 on) in
    let shared : share_of h r ≤ horizon = omega
    (arith, mul-le r.work (h / r.period) r.period (h / r.period) (omega arith) (omega arith)) in
    let jitter = mul-le x r.jitter horizon horizon (omega arith) (omega arith) in
    record {
      under = λ t.
          let f : Row → ℕ = λ s. steps s t in
          let jobs = ceiling (t + r.jitter) r.period in
          let cover = ceiling_covers (t + r.jitter) r.period (omega arith) in
          let line = mul-le x (t + r.jitter) (share_of h r) (jobs * r.period) little cover in
          let parts : h * steps r t ≡ share_of h r * (jobs * r.period) = ap (λ n. n * steps r t) (sym divides)
          ∙ omega arith in
          let more = sum_by-append f rows (r ∷ []) in
          let one = sum_by-cons f r [] in
          let all : h * sum_by f (rows ++ r ∷ []) ≡ h * sum_by f rows + h * steps r t =
          let whole : sum_by f (rows ++ r ∷ []) ≡ sum_by f rows + steps r t = omega (arith, more, one) in
          rw whole (omega arith) in
          omega (arith, lies.under t, line, parts, all);
      flat = omega (arith, lies.flat, size);
      low = omega (arith, lies.low, size, jitter);
    }

-- where the line is not served, the exact demand is not
module _ (l : Load) (slope height free : ℕ) (lies : LiesUnder l.frame l.above slope height)
    (split : free + slope ≡ l.frame) where
  pub line_late : (t : ℕ) → free * t < l.frame * l.own + height → t < exact_of l t
  line_late t late =
      let f : Row → ℕ = λ s. steps s t in
      let all : (free + slope) * t ≡ l.frame * t = ap (λ n. n * t) split in
      lt_of_mul-lt-mul_right l.frame {m = t} {n = exact_of l t} (omega (arith, lies.under t, all))

  -- where the line is not even served at the last instant, no exact demand up to there is
  pub line_missed : (last t : ℕ) → free * last < l.frame * l.own + height → t ≤ last → t < exact_of l t
  line_missed last t late within = line_late t (omega (arith, mul-le free t free last (omega arith) within))

  -- before the first instant that serves the line no exact demand is served
  pub line_before : (t first : ℕ) → 0 < free → first ≡ (l.frame * l.own + height) / free + min 1
      ((l.frame * l.own + height) % free) → t < first → t < exact_of l t
  line_before t first some is early =
      let parts = l.frame * l.own + height in
      let up = is ∙ ceiling_by_quotient parts free some in
      let tight = ceiling_tight parts free some in
      let step = mul-le (t + 1) free (ceiling parts free) free (omega (arith, up)) (omega arith) in
      line_late t (omega (arith, tight, step))

-- the exact demand of a row below one more, where none up to late serves that of the one more
module _ (m : Meaning) (h : ℕ) (rows : List Row) (r : Row) (late : ℕ) (some : 1 ≤ late)
    (none : NoneServed (load m h r.work rows) 0 late) where
  some_job : (t : ℕ) → 1 ≤ t → r.work ≤ steps r t
  some_job t after =
      let covers = ceiling_covers (t + r.jitter) r.period (omega arith) in
      let one = lt_of_mul-lt-mul_right r.period {m = 0} {n = ceiling (t + r.jitter) r.period} (omega arith) in
      omega (arith, mul-le r.work 1 r.work (ceiling (t + r.jitter) r.period) (omega arith) (omega arith))

  pub late_more : (w : ℕ) → 1 ≤ w → (above : List Row) → above ≡ rows ++ r ∷ []
      → NoneServed (load m h w above) 0 (late + w)
  late_more w busy above is t from early =
      let f : Row → ℕ = λ s. steps s t in
      let all : sum_by f above ≡ sum_by f rows + steps r t = ap (sum_by f) is ∙ sum_by-append f rows (r ∷ [])
      ∙ ap (λ n. sum_by f rows + n) (sum_by-cons f r [] ∙ omega arith) in
      elim (cases_lt 0 t) [
        | inr start ↦ omega (arith, all)
        | inl after ↦ elim (cases_lt t late) [
          | inl before ↦ omega (arith, all, some_job t after, none t (omega arith) before)
          | inr past ↦
              let grown = exact_grows (load m h r.work rows) (late - 1) t (omega arith) in
              omega (arith, all, some_job t after, none (late - 1) (omega arith) (omega arith), grown)
        ]
      ]

-- before any row the own work alone is late
pub late_start : (m : Meaning) (h : ℕ) (rows : List Row) (w : ℕ) → NoneServed (load m h w rows) 0 (0 + w)
late_start m h rows w t from early = omega arith
