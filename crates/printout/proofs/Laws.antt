-- What follows from the definitions of specs/, for the code.
use Prim.Native.Nat.{ℕ, ◌+◌, ◌*◌, ◌%◌, ◌^◌, ◌≤◌, ◌<◌}
use mathlib.Core.Path.{◌≡◌, refl, ap}
use mathlib.Core.List.{List, [], ◌∷◌, ◌++◌, append_assoc}
use native.Mathlib.Omega.{arith}
use Rattle.std.specs.Prelude.{Some, None}
use lib.Dec.{leb}
use lib.ListN.{length, take, drop, length-append, length-take}
use lib.Seq.{sets-eq, take_at}
use Rattle.octets.specs.Put.{Stored, Put}
use Rattle.octets.proofs.Laws.{pick-by, put-stored, stored-then}
use Rattle.text.specs.Text.{ascii, decimal, octets_hex}
use Rattle.text.proofs.Laws.{hex16-length, places-most, decimal-length, octets-length}
use Rattle.line.specs.declared.LineFound.TheVariants as found
use Rattle.line.specs.Line.{line_feed}
use Rattle.controller.specs.declared.Held.{Held}
use Rattle.controller.specs.declared.HeldAnswer.{HeldAnswer}
use Rattle.controller.specs.declared.HeldShown.{HeldShown}
use Rattle.controller.specs.declared.Link.{Link}
use Rattle.controller.specs.declared.Link.TheVariants as link
use Rattle.controller.specs.State.{State, joined, output_len}
use Rattle.controller.specs.Replies.{Answer, CallLeaves, octet_of}
use Rattle.controller.specs.Seconds.{Shown, shown_with, second_of}
use Rattle.controller.proofs.Answering.{outputs-left}
use Rattle.printout.specs.declared.Run.{Run}
use Rattle.printout.specs.Listing.{line_most, head_most, word_text, second_line, octets_line, reply_tail, reply_line, again_line, octet_line}
use Rattle.printout.specs.Run.{text_most, Listed, second_made, BadWith, octet_made, line_made}

-- Text

-- what was stored at the start is what stands there
pub stored-taken : {vs l l' : List ℕ} {r : ℕ} → Stored vs 0 l r l' → take r l' ≡ vs
stored-taken {vs} {l} {l'} {r} p =
    rw (p.holds, sets-eq vs l 0 (omega (arith, p.place, p.fits))) (take_at vs (drop (0 + length vs) l) r (omega (arith, p.place)))

-- texts that fit are stored one behind another
pub two-stored : {xs ys l m n : List ℕ} {i p r : ℕ} → Put xs i l p m → Put ys p m r n → i + length xs + length ys ≤ length l → Stored (xs ++ ys) i l r n
two-stored a b h = let p = put-stored a (omega arith) in stored-then p (put-stored b (omega (arith, p.place, p.long)))

pub three-stored : {xs ys zs l m n o : List ℕ} {i p q r : ℕ} → Put xs i l p m → Put ys p m q n → Put zs q n r o
    → i + length xs + length ys + length zs ≤ length l → Stored (xs ++ ys ++ zs) i l r o
three-stored {xs} {ys} a b c h =
    let t = two-stored a b (omega arith) in stored-then t (put-stored c (omega (arith, t.place, t.long, length-append xs ys)))

-- a second's line and the word behind it fit where there is room for the longest
pub both_stored : {line word l m n : List ℕ} {p r : ℕ} → length line ≤ line_most → length word ≡ 6 → length l ≡ head_most → Put line 0 l p m → Put word p m r n
    → Stored (line ++ word) 0 l r n
both_stored h w g a b = two-stored a b (omega arith)

-- nothing is put anywhere
pub put-nothing : (l : List ℕ) (i : ℕ) → Put [] i l i l
put-nothing l i =
    record {
      place = pick-by (λ (k : ℕ). i ≡ k) (leb (i + 0) (length l)) (λ _. omega arith) (λ _. refl);
      holds = pick-by (λ (k : List ℕ). l ≡ k) (leb (i + 0) (length l)) (λ _. refl) (λ _. refl);
    }

pub word-length : (x : ℕ) → length (word_text x) ≡ 16
unfolding word_text
word-length x = hex16-length _

-- a number of sixteen bits has at most five digits
pub decimal-16 : (n : ℕ) → n < 65536 → length (decimal n) ≤ 5
decimal-16 n h = omega (arith, decimal-length n, places-most 4 n (omega arith))

pub line-none : (before xs behind : List ℕ) → length xs ≡ 0 → octets_line before xs behind ≡ []
unfolding octets_line
line-none before [] behind h = refl
line-none before (x ∷ xs) behind h = absurd (omega arith)

pub line-some : (before xs behind : List ℕ) → 0 < length xs → octets_line before xs behind ≡ before ++ octets_hex xs ++ behind
unfolding octets_line
line-some before [] behind h = absurd (omega arith)
line-some before (x ∷ xs) behind h = refl

pub line-length : (before xs behind : List ℕ) → 0 < length xs → length (octets_line before xs behind) + 1 ≡ length before + 3 * length xs + length behind
line-length before xs behind h = rw (line-some before xs behind h) (simp length-append (omega (arith, octets-length xs)))

-- what stands before them may begin with a line of its own
pub line-behind : (line before xs behind : List ℕ) → 0 < length xs → octets_line (line ++ before) xs behind ≡ line ++ octets_line before xs behind
unfolding octets_line
line-behind line before [] behind h = absurd (omega arith)
line-behind line before (x ∷ xs) behind h = simp append_assoc

line-most : (before xs behind : List ℕ) (n : ℕ) → length xs ≤ output_len → length before + 3 * output_len + length behind ≤ n + 1 → length (octets_line before xs behind) ≤ n
unfolding octets_line
line-most before [] behind n h l = omega arith
line-most before (x ∷ xs) behind n h l = omega (arith, line-length before (x ∷ xs) behind (omega arith))

pub reply-most : (xs : List ℕ) (n : ℕ) → length xs ≤ output_len → n < 65536 → length (reply_line xs n) ≤ text_most
unfolding reply_line
reply-most xs n h l = line-most (ascii "reply\t") xs (reply_tail n) text_most h (omega (arith, length-append (decimal n) (line_feed ∷ []), decimal-16 n l))

pub again-most : (xs : List ℕ) → length xs ≤ output_len → line_most + length (again_line xs) ≤ text_most
unfolding again_line
again-most xs h = omega (arith, line-most (ascii "again\t") xs (line_feed ∷ []) (6 + 3 * output_len) h (omega arith))

-- what an octet call wrote, however the link stands
octet-most : (l : Link) (xs : List ℕ) (n : ℕ) → length xs ≤ output_len → n < 65536 → length (octet_line l xs n) ≤ text_most
unfolding octet_line
octet-most link.Again xs n h l = omega (arith, again-most xs h)
octet-most link.Still xs n h l = reply-most xs n h l
octet-most link.Heard xs n h l = reply-most xs n h l
octet-most link.Down xs n h l = reply-most xs n h l

-- The run

module _ (s : Held) (lent b o : List ℕ) (x : ℕ) {r : HeldAnswer} {k b' o' : List ℕ} (d : CallLeaves (octet_of (joined s lent) b o x) lent r k b' o') where
  -- what a call counts is in the output
  pub count_fits : r.told.count ≤ length o'
  count_fits = let l = outputs-left.0 (joined s lent) b o x in omega (arith, l.within, l.long, ap (λ (a : Answer). a.told.count) d.answer, ap length d.out)

  count_most : length (take r.told.count o') ≤ output_len
  count_most = simp length-take (omega (arith, (outputs-left.0 (joined s lent) b o x).most, ap (λ (a : Answer). a.told.count) d.answer))

  -- the code's number has sixteen bits
  pub octet-listed : (n at : ℕ) {t t' : List ℕ} {u : ℕ} → r.told.dropped < 65536 → Put (octet_line r.told.link (take r.told.count o') r.told.dropped) at t u t'
      → Listed (octet_made (joined s lent) n b o x) lent at t (record { state = r.state; seconds = n; used = u }) k b' o' t'
  unfolding octet_made
  octet-listed n at f p =
      record {
        said = record {
          state = ap (λ (a : Answer). a.state) d.answer;
          seconds = refl;
          text = rw (← d.answer, ← d.out) p;
          short = rw (← d.answer, ← d.out) (octet-most r.told.link (take r.told.count o') r.told.dropped count_most f);
        };
        beyond = d.beyond;
        book = d.book;
        out = d.out;
      }

module _ (s : Held) (lent b o : List ℕ) (r : HeldShown) {o' : List ℕ} (e : shown_with r lent o' ≡ second_of (joined s lent) b o) where
  -- what a second counts is in the output too
  pub second_fits : r.told.count ≤ length o'
  second_fits = let l = outputs-left.1 (joined s lent) b o in omega (arith, l.within, l.long, ap (λ (w : Shown). w.told.count) e, ap (λ (w : Shown). length w.out) e)

  second-most : length (take r.told.count o') ≤ output_len
  second-most = simp length-take (omega (arith, (outputs-left.1 (joined s lent) b o).most, ap (λ (w : Shown). w.told.count) e))

  pub second-listed : (n m at : ℕ) {t t' : List ℕ} {u : ℕ} → m ≡ (n + 1) % 2 ^ 64 → length (second_line n r.plan r.row) ≤ line_most
      → Put (second_line n r.plan r.row ++ again_line (take r.told.count o')) at t u t'
      → Listed (second_made (joined s lent) n b o) lent at t (record { state = r.state; seconds = m; used = u }) lent b o' t'
  unfolding second_made
  second-listed n m at g f p =
      record {
        said = record {
          state = ap (λ (w : Shown). w.state) e;
          seconds = g;
          text = rw (← e) p;
          short = rw (← e) (omega (arith, f, again-most (take r.told.count o') second-most, length-append (second_line n r.plan r.row) (again_line (take r.told.count o'))));
        };
        beyond = refl;
        book = refl;
        out = ap (λ (w : Shown). w.out) e;
      }

module _ (run : Run) (lent b o t : List ℕ) where
  abbrev state : State
  state = joined run.state lent

  pub listed_more : Listed (line_made None state run.seconds b o) lent run.used t run lent b o t
  unfolding line_made
  listed_more = record { said = record { state = refl; seconds = refl; text = put-nothing t run.used; short = omega arith }; beyond = refl; book = refl; out = refl }

  pub listed-second : {r : Run} {o' t' : List ℕ} → Listed (second_made state run.seconds b o) lent run.used t r lent b o' t'
      → Listed (line_made (Some found.Second) state run.seconds b o) lent run.used t r lent b o' t'
  unfolding line_made
  listed-second l = l

  pub listed-octet : (x : ℕ) {r : Run} {k b' o' t' : List ℕ} → Listed (octet_made state run.seconds b o x) lent run.used t r k b' o' t'
      → Listed (line_made (Some (found.Octet x)) state run.seconds b o) lent run.used t r k b' o' t'
  unfolding line_made
  listed-octet x l = l

  pub listed-bad : (n : ℕ) {r : Run} {t' : List ℕ} → BadWith run n t r t' → Listed (line_made (Some (found.Bad n)) state run.seconds b o) lent run.used t r lent b o t'
  unfolding line_made
  listed-bad n s = record { said = s lent; beyond = refl; book = refl; out = refl }
