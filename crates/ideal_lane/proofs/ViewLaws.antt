-- How changes of a driver's state are seen from the account.
use Rattle.std.proofs.Common.{◌≡◌, ℕ, ◌==◌, ◌++◌, cond, List, [], ◌∷◌, Some, None, refl, ap, sym, ◌∙◌, append-nil}
use Rattle.std.specs.Ordering.{nat_cmp}
use Rattle.std.specs.FinMap.{FinMap, get, insert, remove}
use Rattle.lane_agreement.specs.View as view
use Rattle.lane_agreement.specs.View.{View}
use Rattle.lane_agreement.specs.After.{IsLike}
use Rattle.ideal_lane.specs.State.{LaneState, LaneMap, LaneMemory, Stage}
use Rattle.ideal_lane.specs.View.{view_of, own_map, own_frames, in_zone, stage_of}
use Rattle.ideal_lane.specs.Loads.{emptied}
use Rattle.ideal_lane.proofs.Lookups.{get_put, get_cut, mapped, same_at, put_same}

pub map_put : (ms : FinMap nat_cmp LaneMap) (m : ℕ) (o : LaneMap) (j : ℕ) →
    own_map (get (insert ms m o) j) ≡ cond (j == m) (own_map (Some o)) (own_map (get ms j))
map_put ms m o j = ap own_map (get_put ms m o j) ∙ mapped own_map (j == m) (Some o) (get ms j)

pub map_cut : (ms : FinMap nat_cmp LaneMap) (m : ℕ) (j : ℕ) →
    own_map (get (remove ms m) j) ≡ cond (j == m) None (own_map (get ms j))
map_cut ms m j = ap own_map (get_cut ms m j) ∙ mapped own_map (j == m) None (get ms j)

pub mem_put : (xs : FinMap nat_cmp LaneMemory) (m : ℕ) (x : LaneMemory) (j : ℕ) →
    own_frames (get (insert xs m x) j) ≡ cond (j == m) (own_frames (Some x)) (own_frames (get xs j))
mem_put xs m x j = ap own_frames (get_put xs m x j) ∙ mapped own_frames (j == m) (Some x) (get xs j)

pub mem_cut : (xs : FinMap nat_cmp LaneMemory) (m : ℕ) (j : ℕ) →
    own_frames (get (remove xs m) j) ≡ cond (j == m) None (own_frames (get xs j))
mem_cut xs m j = ap own_frames (get_cut xs m j) ∙ mapped own_frames (j == m) None (get xs j)

pub like-refl : (v : View) → IsLike v v
like-refl v =
    record { id = refl; maxmem = refl; maps = λ j. refl; mems = λ j. refl; returns = refl; own_frame = λ f. refl }

module _ (l : LaneState) (m : ℕ) where
  -- a map is put of which the account sees nothing new
  pub like-unseen : (o : LaneMap) → own_map (Some o) ≡ own_map (get l.maps m) →
      IsLike (view_of l) (view_of (record l { maps = insert l.maps m o }))
  like-unseen o e = record {
    id = refl;
    maxmem = refl;
    maps = λ j. map_put l.maps m o j ∙ put_same (λ k. own_map (get l.maps k)) m j (own_map (Some o)) e;
    mems = λ j. refl;
    returns = refl;
    own_frame = λ f. refl;
  }

  -- a map is put that has a zone
  pub like-staged : (o : LaneMap) (z : ℕ) (s : view.SeenStage) → own_map (Some o)
      ≡ Some (record { zone = z; stage = s }) →
      IsLike (view.view_staged (view_of l) m z s) (view_of (record l { maps = insert l.maps m o }))
  like-staged o z s e = record {
    id = refl;
    maxmem = refl;
    maps = λ j. map_put l.maps m o j ∙ ap (λ x. cond (j == m) x (own_map (get l.maps j))) e;
    mems = λ j. same_at (λ k. own_frames (get l.mems k)) m j;
    returns = refl;
    own_frame = λ f. refl;
  }

  -- a map with a zone is put, and its pages have joined the return queue
  pub like-unloaded : (o : LaneMap) (z : ℕ) (pages : List ℕ) →
      own_map (Some o) ≡ Some (record { zone = z; stage = view.view_emptied pages }) →
      IsLike (view.unloaded (view_of l) m z pages)
      (view_of (record l { maps = insert l.maps m o; returns = l.returns ++ view.queued_back m z pages }))
  like-unloaded o z pages e = record {
    id = refl;
    maxmem = refl;
    maps = λ j. map_put l.maps m o j ∙ ap (λ x. cond (j == m) x (own_map (get l.maps j))) e;
    mems = λ j. same_at (λ k. own_frames (get l.mems k)) m j;
    returns = refl;
    own_frame = λ f. refl;
  }

  -- a map is gone
  pub like-gone : IsLike (view.gone (view_of l) m) (view_of (record l { maps = remove l.maps m }))
  like-gone = record {
    id = refl;
    maxmem = refl;
    maps = λ j. map_cut l.maps m j;
    mems = λ j. same_at (λ k. own_frames (get l.mems k)) m j;
    returns = refl;
    own_frame = λ f. refl;
  }

  -- a map is gone that the account does not see
  pub like-unseen_gone : own_map (get l.maps m) ≡ None →
      IsLike (view_of l) (view_of (record l { maps = remove l.maps m }))
  like-unseen_gone e = record {
    id = refl;
    maxmem = refl;
    maps = λ j. map_cut l.maps m j ∙ put_same (λ k. own_map (get l.maps k)) m j None (sym e);
    mems = λ j. refl;
    returns = refl;
    own_frame = λ f. refl;
  }

  -- a memory is put with a map that the account does not see
  pub like-memory : (o : LaneMap) (x : LaneMemory) → own_map (Some o) ≡ own_map (get l.maps m) →
      IsLike (view.with_mem (view_of l) m (own_frames (Some x)))
      (view_of (record l { mems = insert l.mems m x; maps = insert l.maps m o }))
  like-memory o x e = record {
    id = refl;
    maxmem = refl;
    maps = λ j. map_put l.maps m o j ∙ ap (λ y. cond (j == m) y (own_map (get l.maps j))) e;
    mems = λ j. mem_put l.mems m x j;
    returns = refl;
    own_frame = λ f. refl;
  }

  -- a memory is gone, with a map that the account does not see
  pub like-no_memory : own_map (get l.maps m) ≡ None →
      IsLike (view.with_mem (view_of l) m None)
      (view_of (record l { mems = remove l.mems m; maps = remove l.maps m }))
  like-no_memory e = record {
    id = refl;
    maxmem = refl;
    maps = λ j. map_cut l.maps m j ∙ ap (λ y. cond (j == m) y (own_map (get l.maps j))) (sym e);
    mems = λ j. mem_cut l.mems m j;
    returns = refl;
    own_frame = λ f. refl;
  }

-- the stage of a map whose pages left it
pub stage-emptied : (pages : List ℕ) → stage_of (emptied pages) ≡ view.view_emptied pages
stage-emptied [] = refl
stage-emptied (p ∷ ps) = refl

-- the map of a driver that has a zone
pub zoned : (s : Stage) (o : LaneMap) (z : ℕ) → o.zone ≡ Some z →
    in_zone s o.zone ≡ Some (record { zone = z; stage = stage_of s })
zoned s o z e = ap (in_zone s) e

-- a map is put whose load held no page, and nothing joins the return queue
pub like-unpaged : (l : LaneState) (m z : ℕ) (o : LaneMap) → own_map (Some o) ≡ own_map (get l.maps m) →
    IsLike (view_of l)
    (view_of (record l { maps = insert l.maps m o; returns = l.returns ++ view.queued_back m z [] }))
like-unpaged l m z o e = record {
  id = refl;
  maxmem = refl;
  maps = λ j. map_put l.maps m o j ∙ put_same (λ k. own_map (get l.maps k)) m j (own_map (Some o)) e;
  mems = λ j. refl;
  returns = append-nil l.returns;
  own_frame = λ f. refl;
}
