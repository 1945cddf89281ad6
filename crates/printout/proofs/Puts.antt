-- The statements of specs/Puts.antt: a text that is put is added behind what was used, where there is room for it.
use mathlib.Core.Path.{refl, sym, ◌∙◌}
use mathlib.Core.List.{◌++◌}
use Rattle.octets.proofs.Relations.{relations-as-said}
use Rattle.controller.proofs.Answering.{in_four}
use Rattle.printout.specs.Listing.{header, bad_line}
use Rattle.printout.specs.Puts.{PutsAsSaid, LinesLeave}
use Rattle.printout.proofs.Promised.{second-printed, reply-printed, again-printed}

pub puts-as-said : PutsAsSaid
unfolding header bad_line
puts-as-said =
    record {
      header = refl;
      second = λ n plan row s f. second-printed n plan row (s, f);
      reply = reply-printed;
      again = again-printed;
      bad = λ n. refl;
      line_most = refl;
      text_most = refl;
    }

pub lines-leave : LinesLeave
lines-leave m lent used t r k b o t' l =
    record {
      state = l.said.state;
      octets = sym (in_four k) ∙ (λ i. (l.said.state i).decoder.info ++ ((l.said.state i).memory.info ++ ((l.said.state i).sender.info ++ l.beyond i)));
      seconds = l.said.seconds;
      text = relations-as-said.put m.said.text used t r.used t' l.said.text;
      short = l.said.short;
      book = l.book;
      out = l.out;
    }
