mod Pages
mod Parts
